use Rattle.std.proofs.Common.{sym, ap₂, ◌∙◌}
use Rattle.nim_tree.specs.Terms.{parts_of}
use Rattle.nim_program.specs.View.{if_type}
use Rattle.expr_rules.specs.Env.{known_next}
use Rattle.expr_rules.specs.Constructions.{part_names, plan_as, plan_with}
use Rattle.expr_parts.specs.View.{env_of, entry_by}
use Rattle.expr_builds.specs.ViewBuilt.{plan_of}
use Rattle.expr_parts.proofs.ForCallers.{answers_as}
use Rattle.expr_builds.proofs.Planning.{plan_known}
use Rattle.expr_builds.proofs.plans.plan_by.Goals as goal

pub returns-clause-answers : goal.returns-clause-answers
returns-clause-answers c = λ ts facts u built_in before x.
    let env = env_of ts facts c.args.scope.now in
    let at = c.args.at in
    let names = part_names (parts_of c.args.parts.now) in
    let w = c.args.what.now in
    answers_as (plan_of ts) (plan_as env at built_in (known_next before (entry_by ts x w)) names)
    (plan_with env at (if_type ts c.object_of-ty.result) c.as_slice.result.now) c.plan_with.result
    (plan_known ts env at built_in before x w names
    ∙ ap₂ (λ o xs. plan_with env at o xs) (c.object_of-ty.ensures.object ts facts u c.args.scope.now before x)
    (sym (c.as_slice.ensures ∙ c.in_ok-names.ensures.names)))
    (c.plan_with.ensures.answers ts facts u)
