use Rattle.std.proofs.Common.{◌≡◌, subst, ap, ◌∙◌}
use Rattle.std.specs.Option.{option_copied}
use Rattle.expr_rules.specs.Demands.{former_by}
use Rattle.expr_rules.specs.Env.{known_as, unknown}
use Rattle.expr_parts.specs.View.{env_of, Stands}
use Rattle.expr_parts.proofs.Naming.{declared_former}
use Rattle.expr_parts.proofs.names.former_of.Goals as goal

pub returns-in-Some : goal.returns-in-Some
returns-in-Some c = λ ts facts.
    let x = c.args.name.now in
    let known = known_as (env_of ts facts c.args.scope.now) x in
    declared_former ts c.in-Some.field-0.now known x (subst (λ o. Stands ts (option_copied o) known) c.in-Some.is (c.find.ensures.stands ts facts))

pub returns-in-None : goal.returns-in-None
returns-in-None c = λ ts facts.
    let x = c.args.name.now in
    let known = known_as (env_of ts facts c.args.scope.now) x in
    let s : known ≡ unknown = subst (λ o. Stands ts (option_copied o) known) c.in-None.is (c.find.ensures.stands ts facts) in
    ap (λ k. former_by k x) s ∙ c.former_named.ensures
