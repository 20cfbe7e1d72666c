use Rattle.std.proofs.Common.{subst, ap, ◌∙◌}
use Rattle.std.specs.Option.{option_copied}
use Rattle.expr_rules.specs.Paths.{is_writable}
use Rattle.expr_rules.specs.Env.{known_as}
use Rattle.expr_parts.specs.View.{env_of, Stands}
use Rattle.expr_steps.proofs.writable.names_writable.Goals as goal

pub returns-in-Some : goal.returns-in-Some
returns-in-Some c = λ ts facts.
    let s = subst (λ o. Stands ts (option_copied o) (known_as (env_of ts facts c.args.scope.now) c.args.name.now)) c.in-Some.is
    (c.find.ensures.stands ts facts) in
    ap is_writable s.1 ∙ c.is_writable.ensures ts s.0 c.in-Some.decl.now.name

pub returns-in-None : goal.returns-in-None
returns-in-None c = λ ts facts.
    ap is_writable (subst (λ o. Stands ts (option_copied o) (known_as (env_of ts facts c.args.scope.now) c.args.name.now)) c.in-None.is
    (c.find.ensures.stands ts facts))
