use Rattle.std.proofs.Common.{refl}
use Rattle.plain_plan.proofs.examples.site_examples.Goals as goal

pub returns : goal.returns
returns c = record { lent = refl; given = refl; declared = refl; chosen = refl; compared = refl; in_place = refl }
