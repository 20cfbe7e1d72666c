use Rattle.std.proofs.Common.{sym, ap, ◌∙◌}
use Rattle.std.specs.Prelude.{false}
use Rattle.nim_tree.specs.Terms.{no_parts, parts_of, term_of}
use Rattle.expr_rules.specs.Demands.{call_demand}
use Rattle.expr_parts.specs.View.{env_of}
use Rattle.expr_parts.proofs.ForCallers.{if_ok}
use Rattle.expr_steps.proofs.Demanding.{demand_so, no_input_taken, no_trees, no_type_taken}
use Rattle.expr_steps.proofs.demands.call_demand.Goals as goal

pub returns-in-Some-clause-demand : goal.returns-in-Some-clause-demand
returns-in-Some-clause-demand c = if_ok c.method_demand.result c.method_demand.ensures.demand (λ d h ts facts.
    ap (λ ps. call_demand (env_of ts facts c.args.scope.now) c.args.name.now (parts_of ps)) c.in-Some.ensures.cases.0
    ∙ h ts facts (parts_of c.in-Some.rest.now) (c.is_alone.ensures (term_of c.in-Some.first.now)))

pub returns-in-None-clause-demand : goal.returns-in-None-clause-demand
returns-in-None-clause-demand c = λ ts facts.
    let env = env_of ts facts c.args.scope.now in
    let x = c.args.name.now in
    ap (λ ps. call_demand env x (parts_of ps)) (no_trees c.args.parts.now c.in-None.ensures.cases)
    ∙ demand_so env x no_parts false false (no_type_taken env x) (no_input_taken env x) ∙ sym c.demand_by.ensures
