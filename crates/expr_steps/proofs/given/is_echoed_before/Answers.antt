use Rattle.std.proofs.Common.{ap, ◌∙◌}
use Rattle.nim_types.specs.Table.{type_at}
use Rattle.expr_rules.specs.Names.{is_echoed}
use Rattle.expr_parts.specs.View.{env_of}
use Rattle.expr_parts.proofs.ForCallers.{if_ok}
use Rattle.expr_steps.specs.ViewDemands.{receiver_of}
use Rattle.expr_steps.proofs.given.is_echoed_before.Goals as goal

pub returns-then-not-of_echo-clause-is : goal.returns-then-not-of_echo-clause-is
returns-then-not-of_echo-clause-is c = λ ts facts u.
    ap (λ b. is_echoed (env_of ts facts c.args.scope.now) (receiver_of b) (type_at ts c.args.ty)) c.if-not-of_echo.true

pub returns-clause-is : goal.returns-clause-is
returns-clause-is c = if_ok c.has_no_field.result c.has_no_field.ensures.is (λ r h ts facts u.
    ap (λ b. is_echoed (env_of ts facts c.args.scope.now) (receiver_of b) (type_at ts c.args.ty)) c.if-not-of_echo.false ∙ h ts facts u)
