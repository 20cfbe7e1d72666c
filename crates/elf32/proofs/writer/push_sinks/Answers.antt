use Rattle.std.proofs.Common.{arith}
use Rattle.std.proofs.lemmas.Grind.{common_steps}
use Rattle.elf32.proofs.Files.{words_of_sinks}
use Rattle.elf32.proofs.writer.push_sinks.Goals as goal

pub returns : goal.returns
returns c = rw (words_of_sinks c.args.sinks.now) (grind (arith, common_steps))
