use Rattle.std.proofs.Common.{subst, ap, length, None}
use Rattle.nim_program.specs.View.{expr_of}
use Rattle.expr_parts.specs.declared.value.Operand.{Operand}
use Rattle.expr_rules.specs.Answers.{value}
use Rattle.expr_rules.specs.Names.{field_or_call, field_rule}
use Rattle.expr_parts.specs.View.{operand_of, valued_of, env_of, OperandWithin}
use Rattle.expr_parts.proofs.ForCallers.{answers_as}
use Rattle.expr_steps.proofs.Dotted.{no_field}
use Rattle.expr_steps.proofs.any_call.field_rule.Goals as goal

pub field_of_value-requires-clause-base : goal.field_of_value-requires-clause-base
field_of_value-requires-clause-base c = subst (OperandWithin (length c.args.types.now)) c.in-Value.is c.requires.operand

pub returns-in-Value-clause-answers : goal.returns-in-Value-clause-answers
returns-in-Value-clause-answers c = λ ts facts u.
    let env = env_of ts facts c.args.scope.now in
    let n = c.args.number in
    let at = c.args.at in
    let x = c.args.name.now in
    answers_as (expr_of ts) (field_rule env n at x (operand_of ts c.args.operand)) (field_rule env n at x (value (valued_of ts c.in-Value.base)))
    c.field_of_value.result (ap (λ (o : Operand). field_rule env n at x (operand_of ts o)) c.in-Value.is) (c.field_of_value.ensures.answers ts facts u)

pub returns-in_default-clause-answers : goal.returns-in_default-clause-answers
returns-in_default-clause-answers c = λ ts facts u.
    let env = env_of ts facts c.args.scope.now in
    let o = operand_of ts c.args.operand in
    let n = c.args.number in
    let at = c.args.at in
    let x = c.args.name.now in
    answers_as (expr_of ts) (field_rule env n at x o) (field_or_call env n at x o None) c.dot_call.result
    (no_field ts env n at x c.args.operand c.in_default.not-Value) (c.dot_call.ensures.answers ts facts u)
