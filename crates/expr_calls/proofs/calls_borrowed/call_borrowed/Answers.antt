use Rattle.std.proofs.Common.{◌≡◌, [], ◌∷◌, subst, sym, ap, ap₂, ◌∙◌, length}
use Rattle.std.specs.Prelude.{map, Some, true}
use Rattle.arc_base.specs.declared.place.Code.TheVariants.{NotTyped}
use Rattle.nim_program.specs.View.{expr_of}
use Rattle.expr_rules.specs.Calls.{arguments_for, borrowed_call, called, comparison_named, comparisons}
use Rattle.expr_parts.specs.View.{operand_of, parameter_of, procedure_of, do_fit, fit, OperandsWithin}
use Rattle.expr_parts.specs.ViewOperands.{IsGiven}
use Rattle.expr_parts.proofs.ForCallers.{answers_as, refuses}
use Rattle.expr_calls.proofs.Operating.{nothing_borrowed, more_borrowed}
use Rattle.expr_calls.proofs.calls_borrowed.call_borrowed.Goals as goal

pub borrowed_one-requires-clause-operand : goal.borrowed_one-requires-clause-operand
borrowed_one-requires-clause-operand c =
    (subst (OperandsWithin (length c.args.types.now)) (subst (IsGiven c.args.operands.items) c.in-One.is c.taken_apart.ensures) c.requires.operands).0

pub borrowed_two-requires-clause-left : goal.borrowed_two-requires-clause-left
borrowed_two-requires-clause-left c =
    (subst (OperandsWithin (length c.args.types.now)) (subst (IsGiven c.args.operands.items) c.in-Two.is c.taken_apart.ensures) c.requires.operands).0

pub borrowed_two-requires-clause-right : goal.borrowed_two-requires-clause-right
borrowed_two-requires-clause-right c =
    (subst (OperandsWithin (length c.args.types.now)) (subst (IsGiven c.args.operands.items) c.in-Two.is c.taken_apart.ensures) c.requires.operands).1.0

pub borrowed_one-requires-clause-fits : goal.borrowed_one-requires-clause-fits
borrowed_one-requires-clause-fits c =
    ap₂ (do_fit c.args.types.now) c.as_slice-params.ensures (sym (subst (IsGiven c.args.operands.items) c.in-One.is c.taken_apart.ensures)) ∙ c.requires.fits

pub borrowed_two-requires-clause-fits : goal.borrowed_two-requires-clause-fits
borrowed_two-requires-clause-fits c =
    ap₂ (do_fit c.args.types.now) c.as_slice-params.ensures (sym (subst (IsGiven c.args.operands.items) c.in-Two.is c.taken_apart.ensures)) ∙ c.requires.fits

pub returns-in-One-clause-answers : goal.returns-in-One-clause-answers
returns-in-One-clause-answers c = λ ts facts u given h.
    let all = subst (IsGiven c.args.operands.items) c.in-One.is c.taken_apart.ensures in
    let k = subst (λ os. arguments_for (map (parameter_of ts) c.args.callee.now.params) (map (operand_of ts) os) ≡ Some given) all h in
    let x = c.args.name.now in
    answers_as (expr_of ts) (called c.args.number c.args.at true x (fit (procedure_of ts c.args.callee.now) given))
    (borrowed_call c.args.number c.args.at c.comparison_named-comparison.result given) c.borrowed_one.result
    (ap (λ o. borrowed_call c.args.number c.args.at o given) c.comparison_named-comparison.ensures)
    (c.borrowed_one.ensures.answers ts facts u given
    (ap (λ ps. arguments_for (map (parameter_of ts) ps) (operand_of ts c.in-One.operand ∷ [])) c.as_slice-params.ensures ∙ k))

pub returns-in-Two-clause-answers : goal.returns-in-Two-clause-answers
returns-in-Two-clause-answers c = λ ts facts u given h.
    let all = subst (IsGiven c.args.operands.items) c.in-Two.is c.taken_apart.ensures in
    let k = subst (λ os. arguments_for (map (parameter_of ts) c.args.callee.now.params) (map (operand_of ts) os) ≡ Some given) all h in
    let x = c.args.name.now in
    answers_as (expr_of ts) (called c.args.number c.args.at true x (fit (procedure_of ts c.args.callee.now) given))
    (borrowed_call c.args.number c.args.at c.comparison_named-comparison.result given) c.borrowed_two.result
    (ap (λ o. borrowed_call c.args.number c.args.at o given) c.comparison_named-comparison.ensures)
    (c.borrowed_two.ensures.answers ts facts u given
    (ap (λ ps. arguments_for (map (parameter_of ts) ps) (operand_of ts c.in-Two.left ∷ operand_of ts c.in-Two.right ∷ [])) c.as_slice-params.ensures
    ∙ k))

pub returns-in-Nothing-clause-answers : goal.returns-in-Nothing-clause-answers
returns-in-Nothing-clause-answers c = λ ts facts u given h.
    let os = c.args.operands.items in
    let all = subst (IsGiven os) c.in-Nothing.is c.taken_apart.ensures in
    let x = c.args.name.now in
    refuses (expr_of ts) (called c.args.number c.args.at true x (fit (procedure_of ts c.args.callee.now) given)) NotTyped c.args.at c.refusal.result
    c.refusal.ensures
    (nothing_borrowed ts c.args.number c.args.at (comparison_named x comparisons) c.args.callee.now.params os given h all)

pub returns-in-More-clause-answers : goal.returns-in-More-clause-answers
returns-in-More-clause-answers c = λ ts facts u given h.
    let os = c.args.operands.items in
    let all = subst (IsGiven os) c.in-More.is c.taken_apart.ensures in
    let x = c.args.name.now in
    refuses (expr_of ts) (called c.args.number c.args.at true x (fit (procedure_of ts c.args.callee.now) given)) NotTyped c.args.at c.refusal-in-More.result
    c.refusal-in-More.ensures
    (more_borrowed ts c.args.number c.args.at (comparison_named x comparisons) c.args.callee.now.params os given h all)
