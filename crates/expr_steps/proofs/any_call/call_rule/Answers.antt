use Rattle.std.proofs.Common.{sym, subst, ap, ◌∙◌, length}
use Rattle.std.specs.Prelude.{map, Bool, if◌then◌else◌}
use Rattle.nim_program.specs.View.{expr_of}
use Rattle.nim_types.specs.Table.{IsBelow}
use Rattle.expr_rules.specs.Names.{call_rule, call_named, echo_rule}
use Rattle.expr_parts.specs.View.{operand_of, env_of}
use Rattle.expr_parts.proofs.ForCallers.{answers_as}
use Rattle.expr_parts.proofs.ForCallers.{if_ok}
use Rattle.expr_steps.proofs.any_call.call_rule.Goals as goal

pub returns-then-is_echo-clause-answers : goal.returns-then-is_echo-clause-answers
returns-then-is_echo-clause-answers c = λ ts facts u.
    let env = env_of ts facts c.args.scope.now in
    let os = map (operand_of ts) c.args.operands.items in
    let n = c.args.number in
    let at = c.args.at in
    let x = c.args.name.now in
    answers_as (expr_of ts) (call_rule env n at x os) (echo_rule env n at os) c.echo_rule.result
    (ap (λ (b : Bool). if b then echo_rule env n at os else call_named env n at x os) (c.is_echo.ensures ∙ c.if-is_echo.true))
    (c.echo_rule.ensures.answers ts facts u)

pub returns-clause-answers : goal.returns-clause-answers
returns-clause-answers c = λ ts facts u.
    let env = env_of ts facts c.args.scope.now in
    let os = map (operand_of ts) c.args.operands.items in
    let n = c.args.number in
    let at = c.args.at in
    let x = c.args.name.now in
    answers_as (expr_of ts) (call_rule env n at x os) (call_named env n at x os) c.call_named.result
    (ap (λ (b : Bool). if b then echo_rule env n at os else call_named env n at x os) (c.is_echo.ensures ∙ c.if-is_echo.false))
    (c.call_named.ensures.answers ts facts u)

pub returns-then-is_echo-clause-within : goal.returns-then-is_echo-clause-within
returns-then-is_echo-clause-within c =
    if_ok c.echo_rule.result c.echo_rule.ensures.number (λ e h. subst (IsBelow (length c.args.types.now)) (sym h) tt)
