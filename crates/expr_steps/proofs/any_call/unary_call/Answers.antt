use Rattle.std.proofs.Common.{[], ◌∷◌, ap, ◌∙◌}
use Rattle.std.specs.Prelude.{Bool, codes, if◌then◌else◌}
use Rattle.nim_program.specs.View.{expr_of}
use Rattle.expr_rules.specs.Answers.{value}
use Rattle.expr_rules.specs.Names.{call_rule}
use Rattle.expr_rules.specs.Operators.{unary_rule}
use Rattle.expr_rules.specs.Typed.{unary_call}
use Rattle.expr_parts.specs.View.{valued_of, env_of}
use Rattle.expr_parts.proofs.ForCallers.{answers_as}
use Rattle.expr_steps.proofs.any_call.unary_call.Goals as goal

pub returns-then-is_dollar-clause-answers : goal.returns-then-is_dollar-clause-answers
returns-then-is_dollar-clause-answers c = λ ts facts u.
    let env = env_of ts facts c.args.scope.now in
    let v = valued_of ts c.args.value in
    let n = c.args.number in
    let at = c.args.at in
    let called = call_rule env n at (codes "$") (value v ∷ []) in
    answers_as (expr_of ts) (unary_call env n at c.args.op v) called c.call_alone.result
    (ap (λ (b : Bool). if b then called else unary_rule n at c.args.op v) (c.is_dollar.ensures ∙ c.if-is_dollar.true))
    (c.call_alone.ensures.answers ts facts u)

pub returns-clause-answers : goal.returns-clause-answers
returns-clause-answers c = λ ts facts u.
    let env = env_of ts facts c.args.scope.now in
    let v = valued_of ts c.args.value in
    let n = c.args.number in
    let at = c.args.at in
    let called = call_rule env n at (codes "$") (value v ∷ []) in
    answers_as (expr_of ts) (unary_call env n at c.args.op v) (unary_rule n at c.args.op v) c.unary.result
    (ap (λ (b : Bool). if b then called else unary_rule n at c.args.op v) (c.is_dollar.ensures ∙ c.if-is_dollar.false))
    (c.unary.ensures.answers ts facts u)
