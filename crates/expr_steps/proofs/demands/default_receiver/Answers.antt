use Rattle.std.proofs.Common.{sym, ap, ◌∙◌}
use Rattle.std.specs.Prelude.{Bool, [], if◌then◌else◌}
use Rattle.expr_rules.specs.Demands.{begins_type, one_type, receiver}
use Rattle.expr_parts.specs.View.{env_of}
use Rattle.expr_steps.proofs.demands.default_receiver.Goals as goal

pub returns-clause-demand : goal.returns-clause-demand
returns-clause-demand c = λ ts facts.
    c.type_or_receiver.ensures ∙ ap (λ (b : Bool). if b then one_type else receiver [])
    (sym (c.in_ok-begins.ensures.is ts facts) ∙ ap (begins_type (env_of ts facts c.args.scope.now)) c.bare.ensures)
