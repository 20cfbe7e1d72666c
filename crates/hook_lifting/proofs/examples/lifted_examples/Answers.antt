use Rattle.std.proofs.Common.{refl}
use Rattle.hook_lifting.proofs.examples.lifted_examples.Goals as goal

pub returns : goal.returns
returns c = record { copies = refl; ends = refl; copied = refl; copied_by_walk = refl; ended = refl; ended_by_walk = refl }
