use Rattle.rv32_logic.proofs.Jumps.{branch_goes}
use Rattle.rv32_logic.proofs.laws.branching.Goals as goal

pub returns : goal.returns
returns c = record { branch = branch_goes }
