use Rattle.std.proofs.Common.{◌≡◌, sym, subst, length, ◌∙◌}
use Rattle.std.specs.Prelude.{Some, map}
use Rattle.arc_base.specs.Refusal.{Answers}
use Rattle.nim_program.specs.View.{expr_of}
use Rattle.expr_parts.specs.declared.scope.Procedure.{Procedure}
use Rattle.expr_rules.specs.Calls.{called, arguments_for}
use Rattle.expr_parts.specs.View.{procedure_of, fit, operand_of, WhatWithin, WhatFits}
use Rattle.expr_parts.proofs.ForCallers.{same_procedure}
use Rattle.expr_calls.proofs.calls_by_name.call_declared.Goals as goal

pub call_fitting-requires-clause-gives : goal.call_fitting-requires-clause-gives
call_fitting-requires-clause-gives c = (subst (WhatWithin (length c.args.types.now)) c.in-Procedure.is c.requires.what).0

pub call_fitting-requires-clause-params : goal.call_fitting-requires-clause-params
call_fitting-requires-clause-params c = (subst (WhatWithin (length c.args.types.now)) c.in-Procedure.is c.requires.what).1

pub call_fitting-requires-clause-fits : goal.call_fitting-requires-clause-fits
call_fitting-requires-clause-fits c = subst (WhatFits c.args.types.now c.args.operands.items) c.in-Procedure.is c.requires.fits

pub returns-clause-answers : goal.returns-clause-answers
returns-clause-answers c = λ ts facts u callee given w h.
    let p = c.in-Procedure.callee in
    let is = same_procedure p callee (sym c.in-Procedure.is ∙ w) in
    subst (λ (q : Procedure). Answers (expr_of ts)
    (called c.args.number c.args.at q.borrowed c.args.name.now (fit (procedure_of ts q) given)) c.call_fitting.result) is
    (c.call_fitting.ensures.answers ts facts u given
    (subst (λ (q : Procedure). arguments_for (procedure_of ts q).params (map (operand_of ts) c.args.operands.items) ≡ Some given) (sym is) h))
