use Rattle.std.proofs.Common.{length}
use Rattle.expr_parts.proofs.parts.+field_from.Given as goal

abbrev pub decreases-field_from : goal.decreases-field_from
decreases-field_from l = length l.fields.now
