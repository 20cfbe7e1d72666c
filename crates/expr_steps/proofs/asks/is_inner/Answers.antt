use Rattle.std.proofs.Common.{ap, ◌∙◌}
use Rattle.nim_types.specs.Table.{type_at}
use Rattle.expr_parts.specs.View.{want_of}
use Rattle.expr_steps.specs.ViewTyping.{is_inner}
use Rattle.expr_steps.proofs.asks.is_inner.Goals as goal

pub returns-in-Inner : goal.returns-in-Inner
returns-in-Inner c = λ ts facts u. ap (λ w. is_inner (want_of ts w) (type_at ts c.args.ty)) c.in-Inner.is ∙ c.is_same.ensures ts facts u
