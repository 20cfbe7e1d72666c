use Rattle.std.specs.Prelude.{map}
use Rattle.nim_types.specs.Table.{type_at}
use Rattle.expr_rules.specs.Constructions.{fields_for}
use Rattle.expr_parts.specs.View.{env_of, found_of}
use Rattle.expr_builds.specs.ViewBuilt.{plan_of, plan_once, found_twice}
use Rattle.expr_parts.proofs.ForCallers.{answers_as}
use Rattle.expr_builds.proofs.Planning.{planned, not_planned}
use Rattle.expr_builds.proofs.plans.fields_for.Goals as goal

pub returns-in-Ok-clause-answers : goal.returns-in-Ok-clause-answers
returns-in-Ok-clause-answers c = λ ts facts u.
    let env = env_of ts facts c.args.scope.now in
    let at = c.args.at in
    let ty = type_at ts c.args.ty in
    let fs = c.in-Ok.chosen.items in
    answers_as (plan_of ts) (fields_for env at ty c.args.names.now) (plan_once at ty (found_twice fs) (map (found_of ts) fs)) c.once.result
    (planned ts env at ty c.args.names.now fs (c.in-Ok.ensures.answers ts facts u))
    (c.once.ensures.answers ts)

pub returns-in-Err-clause-answers : goal.returns-in-Err-clause-answers
returns-in-Err-clause-answers c = λ ts facts u.
    not_planned ts (env_of ts facts c.args.scope.now) c.args.at (type_at ts c.args.ty) c.args.names.now c.in-Err.stop (c.in-Err.ensures.answers ts facts u)
