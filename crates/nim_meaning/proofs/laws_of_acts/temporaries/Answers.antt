use Rattle.nim_meaning.proofs.WaitingActs.{value_makes}
use Rattle.nim_meaning.proofs.laws_of_acts.temporaries.Goals as goal

pub returns : goal.returns
returns c = record { value = value_makes }
