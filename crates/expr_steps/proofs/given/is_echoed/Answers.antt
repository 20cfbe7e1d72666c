use Rattle.std.proofs.Common.{ap, ◌∙◌}
use Rattle.nim_types.specs.Table.{type_at}
use Rattle.expr_rules.specs.Names.{is_echoed}
use Rattle.expr_parts.specs.View.{env_of}
use Rattle.expr_parts.proofs.ForCallers.{if_ok}
use Rattle.expr_steps.specs.ViewDemands.{demand_of}
use Rattle.expr_steps.proofs.given.is_echoed.Goals as goal

pub returns-in-Receiver-clause-is : goal.returns-in-Receiver-clause-is
returns-in-Receiver-clause-is c = if_ok c.is_echoed_before.result c.is_echoed_before.ensures.is (λ b h ts facts u.
    ap (λ d. is_echoed (env_of ts facts c.args.scope.now) (demand_of d) (type_at ts c.args.ty)) c.in-Receiver.is ∙ h ts facts u)
