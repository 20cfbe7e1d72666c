use Rattle.std.proofs.Common.{map, string_bytes}
use Rattle.command_words.proofs.Commands.{some_said, none_said, ranges_said}
use Rattle.command_words.proofs.command.read_words.Goals as goal

pub returns-clause-some : goal.returns-clause-some
returns-clause-some c = some_said (map string_bytes c.args.words.now) c.read.result c.read.ensures

pub returns-clause-none : goal.returns-clause-none
returns-clause-none c = none_said (map string_bytes c.args.words.now) c.read.result c.read.ensures

pub returns-clause-ranges : goal.returns-clause-ranges
returns-clause-ranges c =
    let words = map string_bytes c.args.words.now in
    ranges_said words c.read.result (some_said words c.read.result c.read.ensures)
