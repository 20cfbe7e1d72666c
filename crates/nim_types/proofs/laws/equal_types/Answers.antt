use Rattle.nim_types.proofs.Equality.{same_sound, same_refl}
use Rattle.nim_types.proofs.laws.equal_types.Goals as goal

pub returns-clause-sound : goal.returns-clause-sound
returns-clause-sound c = same_sound

pub returns-clause-reflexive : goal.returns-clause-reflexive
returns-clause-reflexive c = same_refl
