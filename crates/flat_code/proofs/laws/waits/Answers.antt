use Rattle.flat_code.proofs.Waiters.{found, temporary, hooked}
use Rattle.flat_code.proofs.laws.waits.Goals as goal

pub returns : goal.returns
returns c = record { found = found; temporary = temporary; hooked = hooked }
