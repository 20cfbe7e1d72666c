use Rattle.std.proofs.Common.{refl}
use Rattle.parse_exprs.specs.Input.{origin_of}
use Rattle.parse_stmts.specs.Look.{below_at}
use Rattle.parse_stmts.proofs.Steps.{past_is}
use Rattle.parse_stmts.proofs.marks.past_below.Goals as goal

pub returns : goal.returns
returns c = past_is c.args.input.now (below_at (origin_of c.args.input.now) c.args.spaces) c.args.at _ refl c.below_at.ensures _ c.past.ensures
