use Rattle.std.proofs.Common.{ap}
use Rattle.nim_types.specs.Table.{type_at}
use Rattle.nim_program.specs.View.{if_type}
use Rattle.expr_rules.specs.Constructions.{fields_for, plan_with}
use Rattle.expr_parts.specs.View.{env_of}
use Rattle.expr_builds.specs.ViewBuilt.{plan_of}
use Rattle.expr_parts.proofs.ForCallers.{answers_as}
use Rattle.expr_builds.proofs.plans.plan_with.Goals as goal

pub returns-in-Some-clause-answers : goal.returns-in-Some-clause-answers
returns-in-Some-clause-answers c = λ ts facts u.
    let env = env_of ts facts c.args.scope.now in
    let names = c.args.names.now in
    answers_as (plan_of ts) (plan_with env c.args.at (if_type ts c.args.ty) names) (fields_for env c.args.at (type_at ts c.in-Some.ty) names)
    c.fields_for.result (ap (λ o. plan_with env c.args.at (if_type ts o) names) c.in-Some.is) (c.fields_for.ensures.answers ts facts u)
