use Rattle.std.proofs.Common.{refl}
use Rattle.parse_exprs.specs.declared.layout.Layout.TheVariants.{Lines}
use Rattle.parse_exprs.specs.Input.{origin_of}
use Rattle.parse_exprs.specs.Look.{dots_at}
use Rattle.parse_stmts.proofs.Steps.{past_is}
use Rattle.parse_stmts.proofs.marks.past_dots.Goals as goal

pub returns : goal.returns
returns c = past_is c.args.input.now (dots_at (origin_of c.args.input.now) (Lines c.args.spaces)) c.args.at _ refl c.dots_at.ensures _ c.past.ensures
