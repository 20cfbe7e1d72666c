use Rattle.nim_tree.specs.Statements.{statements_of}
use Rattle.check_decls.proofs.Proclaiming.{head_fits, head_goes, head_stops}
use Rattle.check_decls.proofs.Reaching.{completes_there}
use Rattle.check_decls.proofs.procedures.procedure_by.Goals as goal

pub returns-in-Ok-clause-passing : goal.returns-in-Ok-clause-passing
returns-in-Ok-clause-passing c =
    head_goes c.args.draft.now c.proclaim.new.draft c.as_slice-completed.result.now c.args.at c.args.head.now c.args.signature c.has_statements-whole.result
    c.in-Ok.headed (statements_of c.args.trees.now) c.proclaim.result c.requires.sound c.as_slice-completed.ensures.value c.has_statements-whole.ensures
    c.in-Ok.ensures.said c.proclaim.ensures.passing

pub returns-in-Err-clause-passing : goal.returns-in-Err-clause-passing
returns-in-Err-clause-passing c =
    head_stops c.args.draft.now c.as_slice-completed.result.now c.args.at c.args.head.now c.args.signature c.has_statements-whole.result
    (statements_of c.args.trees.now) c.in-Err.stop c.requires.sound c.as_slice-completed.ensures.value c.has_statements-whole.ensures c.in-Err.ensures.said

pub proclaim-requires-clause-fits : goal.proclaim-requires-clause-fits
proclaim-requires-clause-fits c =
    head_fits c.args.draft.now c.as_slice-completed.result.now c.args.at c.args.head.now c.args.signature c.has_statements-whole.result _ c.in-Ok.headed
    c.requires.sound c.as_slice-completed.ensures.value c.has_statements-whole.ensures c.in-Ok.ensures.said

pub head_by-requires-clause-ready : goal.head_by-requires-clause-ready
head_by-requires-clause-ready c = c.requires.sound.ready

pub proclaim-requires-clause-there : goal.proclaim-requires-clause-there
proclaim-requires-clause-there c =
    completes_there c.completed_there.ensures c.args.draft.now c.as_slice-completed.result.now c.args.at c.args.head.now c.args.signature
    c.has_statements-whole.result c.in-Ok.headed c.count-types.ensures.table c.requires.sound c.requires.reached c.as_slice-completed.ensures.value
    c.in-Ok.ensures.said
