use Rattle.command_words.proofs.Ranges.{in_range}
use Rattle.command_words.proofs.laws.command_ranges.Goals as goal

pub returns : goal.returns
returns c = in_range
