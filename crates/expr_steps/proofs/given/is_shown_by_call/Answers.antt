use Rattle.std.proofs.Common.{ap, ◌∙◌}
use Rattle.std.specs.Prelude.{Bool, ◌&&◌}
use Rattle.expr_rules.specs.Names.{is_called, own_dollars}
use Rattle.expr_parts.specs.View.{env_of, valued_of}
use Rattle.expr_parts.proofs.ForCallers.{if_ok}
use Rattle.expr_steps.proofs.given.is_shown_by_call.Goals as goal

pub returns-then-not-echoed-clause-is : goal.returns-then-not-echoed-clause-is
returns-then-not-echoed-clause-is c = λ ts facts u.
    ap (λ (b : Bool). b && is_called (own_dollars (env_of ts facts c.args.scope.now) (valued_of ts c.args.value.now)))
    (c.in_ok-echoed.ensures.is ts facts u ∙ c.if-not-echoed.true)

pub returns-clause-is : goal.returns-clause-is
returns-clause-is c = if_ok c.has_own_dollar.result c.has_own_dollar.ensures.is (λ r h ts facts u.
    ap (λ (b : Bool). b && is_called (own_dollars (env_of ts facts c.args.scope.now) (valued_of ts c.args.value.now)))
    (c.in_ok-echoed.ensures.is ts facts u ∙ c.if-not-echoed.false) ∙ h ts facts u)
