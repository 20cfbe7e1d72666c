use Rattle.std.proofs.Common.{ap, subst, sym, length}
use Rattle.std.specs.Prelude.{true, false}
use Rattle.nim_types.specs.Table.{IsBelow}
use Rattle.nim_program.specs.View.{expr_of}
use Rattle.expr_rules.specs.Calls.{called}
use Rattle.expr_parts.specs.View.{procedure_of, fit}
use Rattle.expr_parts.proofs.ForCallers.{answers_as}
use Rattle.expr_parts.proofs.ForCallers.{if_ok}
use Rattle.expr_calls.proofs.calls_by_name.call_fitting.Goals as goal

pub returns-then-callee-clause-answers : goal.returns-then-callee-clause-answers
returns-then-callee-clause-answers c = λ ts facts u given h.
    let x = c.args.name.now in
    let f = fit (procedure_of ts c.args.callee.now) given in
    answers_as (expr_of ts) (called c.args.number c.args.at c.args.callee.now.borrowed x f) (called c.args.number c.args.at true x f) c.call_borrowed.result
    (ap (λ b. called c.args.number c.args.at b x f) c.if-callee.true) (c.call_borrowed.ensures.answers ts facts u given h)

pub returns-clause-answers : goal.returns-clause-answers
returns-clause-answers c = λ ts facts u given h.
    let x = c.args.name.now in
    let f = fit (procedure_of ts c.args.callee.now) given in
    answers_as (expr_of ts) (called c.args.number c.args.at c.args.callee.now.borrowed x f) (called c.args.number c.args.at false x f) c.call_procedure.result
    (ap (λ b. called c.args.number c.args.at b x f) c.if-callee.false) (c.call_procedure.ensures.answers ts facts u x given h)

pub returns-clause-within : goal.returns-clause-within
returns-clause-within c =
    if_ok c.call_procedure.result c.call_procedure.ensures.number (λ e h. subst (IsBelow (length c.args.types.now)) (sym h) c.requires.gives)
