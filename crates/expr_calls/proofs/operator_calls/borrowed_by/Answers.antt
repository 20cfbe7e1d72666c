use Rattle.std.proofs.Common.{List, sym, subst, ap, ◌∙◌, length}
use Rattle.std.specs.Prelude.{map}
use Rattle.arc_base.specs.declared.place.Code.TheVariants.{NotTyped}
use Rattle.nim_program.specs.View.{expr_of}
use Rattle.expr_rules.specs.Answers.{not_typed, Operand}
use Rattle.expr_rules.specs.Calls.{fitting, one_of}
use Rattle.expr_rules.specs.Env.{callable, known_as}
use Rattle.expr_rules.specs.Operators.{borrowed_by, borrowed_name}
use Rattle.expr_parts.specs.View.{env_of, operand_of, valued_of, OperandsWithin}
use Rattle.expr_parts.proofs.ForCallers.{answers_as, refuses}
use Rattle.expr_calls.proofs.Operating.{not_borrowed}
use Rattle.expr_calls.proofs.operator_calls.borrowed_by.Goals as goal

pub one_fitting-requires-clause-operands : goal.one_fitting-requires-clause-operands
one_fitting-requires-clause-operands c =
    subst (OperandsWithin (length c.args.types.now)) (sym c.in_ok-operands.ensures.both) (c.requires.left, (c.requires.right, tt))

pub returns-then-not-is_comparison-clause-answers : goal.returns-then-not-is_comparison-clause-answers
returns-then-not-is_comparison-clause-answers c = λ ts facts u.
    let env = env_of ts facts c.args.scope.now in
    let v = valued_of ts c.args.left in
    let w = valued_of ts c.args.right in
    refuses (expr_of ts) (borrowed_by env c.args.number c.args.at (borrowed_name c.args.op) v w) NotTyped c.args.at c.refusal.result c.refusal.ensures
    (ap (λ o. borrowed_by env c.args.number c.args.at o v w) (not_borrowed c.args.op (sym c.is_comparison.ensures ∙ c.if-not-is_comparison.true)))

pub returns-clause-answers : goal.returns-clause-answers
returns-clause-answers c = λ ts facts u.
    let env = env_of ts facts c.args.scope.now in
    let v = valued_of ts c.args.left in
    let w = valued_of ts c.args.right in
    let n = c.args.number in
    let at = c.args.at in
    let x = c.comparison_name.result.now in
    let said = λ (os : List Operand). one_of n at x (fitting (callable (known_as env x)) os) (not_typed at) in
    answers_as (expr_of ts) (borrowed_by env n at (borrowed_name c.args.op) v w)
    (said (map (operand_of ts) c.in_ok-operands.operands.items)) c.one_fitting.result
    (ap (λ o. borrowed_by env n at o v w) (c.comparison_name.ensures (sym c.is_comparison.ensures ∙ c.if-not-is_comparison.false))
    ∙ ap said (ap (map (operand_of ts)) (sym c.in_ok-operands.ensures.both)))
    (c.one_fitting.ensures.answers ts facts u)
