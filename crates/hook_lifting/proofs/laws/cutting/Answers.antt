use Rattle.hook_lifting.proofs.Cuts.{does_cut}
use Rattle.hook_lifting.proofs.laws.cutting.Goals as goal

pub returns : goal.returns
returns c = λ known of. does_cut known of
