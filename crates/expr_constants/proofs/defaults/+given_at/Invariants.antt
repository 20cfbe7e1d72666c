use Rattle.std.proofs.Common.{length}
use Rattle.expr_constants.proofs.defaults.+given_at.Given as goal

abbrev pub decreases-given_at : goal.decreases-given_at
decreases-given_at l = length l.fields.now
