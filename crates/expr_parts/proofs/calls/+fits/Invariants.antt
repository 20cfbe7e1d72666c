use Rattle.std.proofs.Common.{length}
use Rattle.expr_parts.proofs.calls.+fits.Given as goal

abbrev pub decreases-fits : goal.decreases-fits
decreases-fits l = length l.params.now
