use Rattle.std.proofs.Common.{ap, ◌∙◌}
use Rattle.nim_types.specs.Table.{type_at}
use Rattle.nim_program.specs.View.{if_type}
use Rattle.expr_rules.specs.Demands.{is_one_of}
use Rattle.expr_steps.proofs.asks.is_one_of.Goals as goal

pub returns-in-Some : goal.returns-in-Some
returns-in-Some c = λ ts facts u. ap (λ o. is_one_of (if_type ts o) (type_at ts c.args.ty)) c.in-Some.is ∙ c.is_same.ensures ts facts u
