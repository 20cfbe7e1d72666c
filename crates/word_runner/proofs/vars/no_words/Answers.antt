use Rattle.std.proofs.Common.{ap}
use Rattle.word_runner.specs.View.{held_in}
use Rattle.word_runner.proofs.vars.no_words.Goals as goal

pub returns : goal.returns
returns c = ap held_in c.new.ensures.items
