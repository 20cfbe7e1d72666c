use Rattle.std.proofs.Common.{sym, subst, ap}
use Rattle.std.specs.Option.{option_copied}
use Rattle.expr_rules.specs.Demands.{is_a_type}
use Rattle.expr_rules.specs.Env.{known_as}
use Rattle.expr_parts.specs.View.{env_of, Stands, FoundWithin}
use Rattle.expr_steps.specs.ViewCalls.{IsKnownType}
use Rattle.expr_steps.proofs.named_calls.type_known.Goals as goal

pub returns-in-Some-clause-known : goal.returns-in-Some-clause-known
returns-in-Some-clause-known c = λ ts facts.
    let s = subst (λ o. Stands ts (option_copied o) (known_as (env_of ts facts c.args.scope.now) c.args.name.now)) c.in-Some.is
    (c.find.ensures.stands ts facts) in
    subst (λ k. IsKnownType ts k c.type_in.result) (sym s.1) (c.type_in.ensures.known ts s.0 c.in-Some.decl.now.name)

pub returns-in-None-clause-known : goal.returns-in-None-clause-known
returns-in-None-clause-known c = λ ts facts.
    ap is_a_type (subst (λ o. Stands ts (option_copied o) (known_as (env_of ts facts c.args.scope.now) c.args.name.now)) c.in-None.is
    (c.find.ensures.stands ts facts))

pub returns-in-Some-clause-within : goal.returns-in-Some-clause-within
returns-in-Some-clause-within c = λ n h.
    c.type_in.ensures.within n (subst (λ o. FoundWithin n (option_copied o)) c.in-Some.is (c.find.ensures.within n h))
