use Rattle.std.proofs.Common.{sym, subst, ap, refl, ◌∙◌}
use Rattle.std.specs.Prelude.{Bool, [], if◌then◌else◌}
use Rattle.nim_tree.specs.Terms.{no_parts, part, term_of}
use Rattle.expr_rules.specs.Demands.{as_receiver, bare, begins_type, call_demand, one_type, receiver, receiver_demand}
use Rattle.expr_parts.specs.View.{env_of}
use Rattle.expr_parts.proofs.ForCallers.{if_ok}
use Rattle.expr_steps.specs.ViewDemands.{as_receiver_with, demand_of, SameDemand}
use Rattle.expr_steps.proofs.Demanding.{default_alike, receiver_alike}
use Rattle.expr_steps.proofs.demands.receiver_demand.Goals as goal

pub returns-then-is_default-clause-demand : goal.returns-then-is_default-clause-demand
returns-then-is_default-clause-demand c = if_ok c.default_receiver.result c.default_receiver.ensures.demand (λ d h ts facts.
    let env = env_of ts facts c.args.scope.now in
    let x = c.args.name.now in
    let a = term_of c.args.tree.now in
    let begins = begins_type env (bare a) in
    let is = c.is_default.ensures ∙ c.if-is_default.true in
    subst (SameDemand env (receiver_demand env x a)) (sym (h ts facts))
    (subst (λ (b : Bool). SameDemand env (if b then (if begins then one_type else receiver x) else as_receiver x (call_demand env x (part a no_parts)))
    (if begins then one_type else receiver [])) (sym is) (default_alike env x begins is)))

pub returns-clause-demand : goal.returns-clause-demand
returns-clause-demand c = λ ts facts.
    let env = env_of ts facts c.args.scope.now in
    let x = c.args.name.now in
    let a = term_of c.args.tree.now in
    let d = call_demand env x (part a no_parts) in
    let begins = begins_type env (bare a) in
    subst (λ (b : Bool). SameDemand env (if b then (if begins then one_type else receiver x) else as_receiver x d) (demand_of c.as_receiver.result))
    (sym (c.is_default.ensures ∙ c.if-is_default.false))
    (subst (SameDemand env (as_receiver x d)) (ap (as_receiver_with x) (c.in_ok-demand.ensures.demand ts facts no_parts refl) ∙ sym c.as_receiver.ensures)
    (receiver_alike env x d))
