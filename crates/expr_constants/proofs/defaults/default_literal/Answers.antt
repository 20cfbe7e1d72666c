use Rattle.std.proofs.Common.{◌∙◌}
use Rattle.expr_constants.proofs.ConstantTypes.{start_under}
use Rattle.expr_parts.proofs.ForCallers.{if_ok}
use Rattle.expr_constants.proofs.defaults.default_literal.Goals as goal

pub returns : goal.returns
returns c = if_ok c.start_of.result c.start_of.ensures (λ l h ts facts u. h ∙ start_under c.args.ty u c.requires.ty)
