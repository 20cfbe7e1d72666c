use Rattle.rv32_logic.proofs.Fetch.{stands_all, stands_back, obeyed}
use Rattle.rv32_logic.proofs.laws.fetching.Goals as goal

pub returns : goal.returns
returns c = record { all = stands_all; back = stands_back; step = obeyed }
