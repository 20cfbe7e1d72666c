use Rattle.std.proofs.Common.{arith}
use Rattle.std.proofs.lemmas.Grind.{common_steps}
use Rattle.elf32.specs.Elf.{file_of}
use Rattle.elf32.proofs.Files.{elf_only}
use Rattle.elf32.proofs.writer.write.Goals as goal

pub returns-clause-only : goal.returns-clause-only
returns-clause-only c = λ other said. elf_only _ (file_of c.args.file.now) other (record { spelled = grind (arith, common_steps); allowed = c.requires }) said
