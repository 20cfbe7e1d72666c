use Rattle.formed_programs.proofs.Programs.{programs_formed}
use Rattle.formed_programs.proofs.laws.formed.Goals as goal

pub returns : goal.returns
returns c = programs_formed
