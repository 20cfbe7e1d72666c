use Rattle.std.proofs.Common.{arith}
use Rattle.elf32.specs.Elf.{file_of}
use Rattle.elf32.proofs.Files.{CountsFit, counts_fit}
use Rattle.elf32.proofs.writer.describe.Goals as goal

pub push_sites-requires : goal.push_sites-requires
push_sites-requires c =
    let fit : CountsFit (file_of c.args.file.now) = counts_fit _ c.requires in
    grind (arith, fit.sites)

pub push_sinks-requires : goal.push_sinks-requires
push_sinks-requires c =
    let fit : CountsFit (file_of c.args.file.now) = counts_fit _ c.requires in
    grind (arith, fit.sinks)

pub push_skips-requires : goal.push_skips-requires
push_skips-requires c =
    let fit : CountsFit (file_of c.args.file.now) = counts_fit _ c.requires in
    grind (arith, fit.skips)
