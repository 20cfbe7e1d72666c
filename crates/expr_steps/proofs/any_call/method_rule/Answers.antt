use Rattle.std.proofs.Common.{[], ◌∷◌, ap, ◌∙◌}
use Rattle.arc_base.specs.declared.place.Code.TheVariants.{NotTyped}
use Rattle.nim_program.specs.View.{expr_of}
use Rattle.expr_rules.specs.Names.{call_rule, method_by, method_rule}
use Rattle.expr_parts.specs.View.{operand_of, env_of}
use Rattle.expr_parts.proofs.ForCallers.{answers_as, refuses}
use Rattle.expr_steps.proofs.any_call.method_rule.Goals as goal

pub returns-in-Some-clause-answers : goal.returns-in-Some-clause-answers
returns-in-Some-clause-answers c = λ ts facts u.
    let env = env_of ts facts c.args.scope.now in
    let o = operand_of ts c.args.operand in
    let x = c.args.name.now in
    refuses (expr_of ts) (method_rule env c.args.number c.args.at x o) NotTyped c.in-Some.place c.refusal.result c.refusal.ensures
    (ap (method_by env c.args.number c.args.at x o) (c.default_of_value.ensures ts ∙ c.in-Some.is))

pub returns-in-None-clause-answers : goal.returns-in-None-clause-answers
returns-in-None-clause-answers c = λ ts facts u.
    let env = env_of ts facts c.args.scope.now in
    let o = operand_of ts c.args.operand in
    let x = c.args.name.now in
    answers_as (expr_of ts) (method_rule env c.args.number c.args.at x o) (call_rule env c.args.number c.args.at x (o ∷ [])) c.call_alone.result
    (ap (method_by env c.args.number c.args.at x o) (c.default_of_value.ensures ts ∙ c.in-None.is))
    (c.call_alone.ensures.answers ts facts u)
