use Rattle.std.proofs.Common.{subst, sym}
use Rattle.arc_base.specs.Refusal.{Answers}
use Rattle.nim_program.specs.View.{expr_of}
use Rattle.expr_parts.specs.declared.value.Operand.{Operand}
use Rattle.expr_rules.specs.Answers.{value}
use Rattle.expr_rules.specs.Operators.{binary_rule}
use Rattle.expr_parts.specs.View.{env_of, operand_of, valued_of}
use Rattle.expr_parts.proofs.ForCallers.{refuses}
use Rattle.arc_base.specs.declared.place.Code.TheVariants.{NotTyped}
use Rattle.expr_calls.proofs.Operating.{typeless_behind}
use Rattle.expr_calls.proofs.operator_calls.behind_value.Goals as goal

pub returns-in-Value-clause-answers : goal.returns-in-Value-clause-answers
returns-in-Value-clause-answers c = λ ts facts u.
    let env = env_of ts facts c.args.scope.now in
    subst (λ (o : Operand). Answers (expr_of ts)
    (binary_rule env c.args.number c.args.at c.args.op (value (valued_of ts c.args.left)) (operand_of ts o)) c.binary_values.result) (sym c.in-Value.is)
    (c.binary_values.ensures.answers ts facts u)

pub returns-in-Open-clause-answers : goal.returns-in-Open-clause-answers
returns-in-Open-clause-answers c = λ ts facts u.
    let env = env_of ts facts c.args.scope.now in
    subst (λ (o : Operand). Answers (expr_of ts)
    (binary_rule env c.args.number c.args.at c.args.op (value (valued_of ts c.args.left)) (operand_of ts o)) c.value_and_open.result) (sym c.in-Open.is)
    (c.value_and_open.ensures.answers ts facts u)

pub returns-in_default-clause-answers : goal.returns-in_default-clause-answers
returns-in_default-clause-answers c = λ ts facts u.
    let env = env_of ts facts c.args.scope.now in
    let v = valued_of ts c.args.left in
    refuses (expr_of ts) (binary_rule env c.args.number c.args.at c.args.op (value v) (operand_of ts c.args.right)) NotTyped c.args.at
    c.refusal.result c.refusal.ensures
    (typeless_behind ts env c.args.number c.args.at c.args.op v c.args.right c.in_default.not-Value c.in_default.not-Open)
