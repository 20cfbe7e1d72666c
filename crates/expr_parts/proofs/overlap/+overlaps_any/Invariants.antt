use Rattle.std.proofs.Common.{length}
use Rattle.expr_parts.proofs.overlap.+overlaps_any.Given as goal

abbrev pub decreases-overlaps_any : goal.decreases-overlaps_any
decreases-overlaps_any l = length l.args.now
