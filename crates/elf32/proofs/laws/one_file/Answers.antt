use Rattle.std.proofs.Common.{refl, sym, ◌∙◌}
use Rattle.elf32.proofs.Files.{elf_only}
use Rattle.elf32.proofs.FileOrFault.{file_or_fault}
use Rattle.elf32.proofs.Law.{never_both, one_fault}
use Rattle.elf32.proofs.laws.one_file.Goals as goal

pub returns : goal.returns
returns c =
    record {
      bytes = λ file is. record { spelled = refl; allowed = is };
      only = λ file a b one other. one.spelled ∙ sym other.spelled;
      file = elf_only;
      fault = one_fault;
      apart = never_both;
      some = file_or_fault;
    }
