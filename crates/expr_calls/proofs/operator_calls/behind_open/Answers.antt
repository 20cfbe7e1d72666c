use Rattle.std.proofs.Common.{subst, sym}
use Rattle.arc_base.specs.Refusal.{Answers}
use Rattle.nim_program.specs.View.{expr_of}
use Rattle.expr_parts.specs.declared.value.Operand.{Operand}
use Rattle.expr_rules.specs.Answers.{open_sequence}
use Rattle.expr_rules.specs.Operators.{binary_rule}
use Rattle.expr_parts.specs.View.{env_of, operand_of}
use Rattle.expr_parts.proofs.ForCallers.{refuses}
use Rattle.arc_base.specs.declared.place.Code.TheVariants.{NotTyped}
use Rattle.expr_calls.proofs.Operating.{open_alone}
use Rattle.expr_calls.proofs.operator_calls.behind_open.Goals as goal

pub returns-in-Value-clause-answers : goal.returns-in-Value-clause-answers
returns-in-Value-clause-answers c = λ ts facts u.
    let env = env_of ts facts c.args.scope.now in
    subst (λ (o : Operand). Answers (expr_of ts)
    (binary_rule env c.args.number c.args.at c.args.op (open_sequence c.args.place c.args.opened) (operand_of ts o)) c.open_and_value.result)
    (sym c.in-Value.is)
    (c.open_and_value.ensures.answers ts facts u)

pub returns-in_default-clause-answers : goal.returns-in_default-clause-answers
returns-in_default-clause-answers c = λ ts facts u.
    let env = env_of ts facts c.args.scope.now in
    let p = c.args.place in
    refuses (expr_of ts) (binary_rule env c.args.number c.args.at c.args.op (open_sequence p c.args.opened) (operand_of ts c.args.right)) NotTyped p
    c.refusal.result c.refusal.ensures
    (open_alone ts env c.args.number c.args.at c.args.op p c.args.opened c.args.right c.in_default.not-Value)
