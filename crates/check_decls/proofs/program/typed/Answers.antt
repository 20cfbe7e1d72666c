use Rattle.std.proofs.lemmas.Result.{err_from_is_err_and}
use Rattle.arc_base.specs.Refusal.{and_then}
use Rattle.expr_parts.proofs.ForCallers.{forgets}
use Rattle.decl_rules.specs.Elaborated.{modules_stated, nothing_known}
use Rattle.check_decls.specs.Modules.{in_order, program_in}
use Rattle.check_decls.specs.View.{program_rule}
use Rattle.check_decls.proofs.Beginning.{first_sound}
use Rattle.check_decls.proofs.Finishing.{typed_goes, typed_stops, typed_whole}
use Rattle.check_decls.proofs.Reaching.{reached_first}
use Rattle.check_decls.proofs.program.typed.Goals as goal

pub returns-in-Ok-clause-program : goal.returns-in-Ok-clause-program
returns-in-Ok-clause-program c =
    typed_goes c.in_ok-draft.draft c.all_modules.new.draft (in_order c.args.modules.now c.args.order.now) c.checked.result c.in_ok-draft.ensures.first
    c.count-types.ensures.table c.in-Ok.ensures c.checked.ensures.types c.checked.ensures.program

pub returns-in-Ok-clause-whole : goal.returns-in-Ok-clause-whole
returns-in-Ok-clause-whole c =
    typed_whole c.in_ok-draft.draft c.all_modules.new.draft (in_order c.args.modules.now c.args.order.now) c.checked.result c.in_ok-draft.ensures.first
    c.count-types.ensures.table c.in-Ok.ensures c.checked.ensures.types c.checked.ensures.nodes

pub returns-in-Err-clause-program : goal.returns-in-Err-clause-program
returns-in-Err-clause-program c =
    typed_stops c.in_ok-draft.draft c.all_modules.new.draft (in_order c.args.modules.now c.args.order.now) c.in-Err.stop c.in_ok-draft.ensures.first
    c.count-count.ensures.table c.in-Err.ensures

pub all_modules-requires-clause-sound : goal.all_modules-requires-clause-sound
all_modules-requires-clause-sound c = first_sound c.in_ok-draft.draft c.in_ok-draft.ensures.first

pub all_modules-requires-clause-reached : goal.all_modules-requires-clause-reached
all_modules-requires-clause-reached c = reached_first c.in_ok-draft.draft c.in_ok-draft.ensures.first

pub returns-in_err-draft-clause-program : goal.returns-in_err-draft-clause-program
returns-in_err-draft-clause-program c =
    let p = err_from_is_err_and c.from_residual.result c.from_residual.ensures.1 in
    rw (p.1, p.2)
    (λ ts. forgets program_in (and_then (modules_stated nothing_known (in_order c.args.modules.now c.args.order.now)) (program_rule ts)) _
    c.in_err-draft.ensures.memory)
