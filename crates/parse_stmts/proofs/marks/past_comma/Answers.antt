use Rattle.std.proofs.Common.{refl}
use Rattle.parse_exprs.specs.declared.layout.Layout.TheVariants.{Lines}
use Rattle.parse_exprs.specs.Look.{comma_at}
use Rattle.parse_stmts.proofs.Steps.{past_is}
use Rattle.parse_stmts.proofs.marks.past_comma.Goals as goal

pub returns : goal.returns
returns c = past_is c.args.input.now (comma_at (Lines c.args.spaces)) c.args.at _ refl c.comma_at.ensures _ c.past.ensures
