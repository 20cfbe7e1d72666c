use Rattle.std.proofs.Common.{sym, ◌∙◌}
use Rattle.nim_tree.specs.Terms.{part, term_of}
use Rattle.expr_parts.specs.View.{env_of}
use Rattle.expr_steps.proofs.Demanding.{demand_so}
use Rattle.expr_steps.proofs.demands.method_demand.Goals as goal

pub returns-clause-demand : goal.returns-clause-demand
returns-clause-demand c = λ ts facts rest h.
    demand_so (env_of ts facts c.args.scope.now) c.args.name.now (part (term_of c.args.first.now) rest) _ _
    (c.in_ok-takes_type.ensures.is ts facts rest h) (c.in_ok-takes_input.ensures.is ts facts rest) ∙ sym c.demand_by.ensures
