use Rattle.nim_tree.specs.Statements.{statements_of}
use Rattle.std.proofs.lemmas.Result.{err_from_is_err_and}
use Rattle.decl_rules.specs.Elaborated.{module_stated}
use Rattle.decl_parts.proofs.ForCallers.{further_as, further_same}
use Rattle.check_decls.proofs.Drafts.{module_carried, carrying_forgets}
use Rattle.check_decls.proofs.Reaching.{reached_module}
use Rattle.check_decls.proofs.modules.module.Goals as goal

pub returns-clause-carrying : goal.returns-clause-carrying
returns-clause-carrying c = module_carried c.args.number (statements_of c.args.trees.now) c.in_ok-begin_module.ensures.begins
    c.outermost_statements.ensures.carrying

pub returns-in_err-begin_module-clause-carrying : goal.returns-in_err-begin_module-clause-carrying
returns-in_err-begin_module-clause-carrying c =
    let p = err_from_is_err_and c.from_residual.result c.from_residual.ensures.1 in
    rw (p.1, p.2)
    (carrying_forgets (λ st. module_stated st (record { number = c.args.number; body = statements_of c.args.trees.now })) _
    (further_as c.begin_module.ensures.types (further_same c.begin_module.new.draft.state)) c.in_err-begin_module.ensures.memory)

pub outermost_statements-requires-clause-sound : goal.outermost_statements-requires-clause-sound
outermost_statements-requires-clause-sound c = c.in_ok-begin_module.ensures.begins.sound

pub outermost_statements-requires-clause-reached : goal.outermost_statements-requires-clause-reached
outermost_statements-requires-clause-reached c = reached_module c.in_ok-begin_module.ensures.begins c.requires.reached

pub returns-clause-reached : goal.returns-clause-reached
returns-clause-reached c = c.outermost_statements.ensures.reached
