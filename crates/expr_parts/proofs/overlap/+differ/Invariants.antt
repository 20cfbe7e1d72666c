use Rattle.std.proofs.Common.{length}
use Rattle.expr_parts.proofs.overlap.+differ.Given as goal

abbrev pub decreases-differ : goal.decreases-differ
decreases-differ l = length l.a.now
