use Rattle.arc_base.specs.Refusal.{and_then}
use Rattle.decl_rules.specs.Elaborated.{none_left_out, modules_stated, nothing_known}
use Rattle.expr_parts.proofs.ForCallers.{goes, stops}
use Rattle.check_decls.specs.Modules.{in_order, program_in, types_or}
use Rattle.check_decls.specs.View.{program_rule}
use Rattle.check_decls.proofs.program.elaborate.Goals as goal

pub returns-in-Ok-clause-program : goal.returns-in-Ok-clause-program
returns-in-Ok-clause-program c = λ ts.
    let all = in_order c.args.modules.now c.args.order.now in
    goes program_in (λ (x : Unit {0}). tt) (none_left_out all) (λ _. and_then (modules_stated nothing_known all) (program_rule (types_or ts c.typed.result))) tt
    c.typed.result c.in-Ok.ensures (c.typed.ensures.program ts)

pub returns-in-Err-clause-program : goal.returns-in-Err-clause-program
returns-in-Err-clause-program c = λ ts.
    let all = in_order c.args.modules.now c.args.order.now in
    stops program_in (λ (x : Unit {0}). tt) (none_left_out all) (λ _. and_then (modules_stated nothing_known all) (program_rule ts)) c.in-Err.stop
    c.in-Err.ensures
