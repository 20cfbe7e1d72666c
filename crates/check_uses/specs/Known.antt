-- The procedures that are known. It serves proofs alone: the promise of `check_text` doesn't speak of it.
use Rattle.std.specs.Prelude.{List, [], map}
use Rattle.nim_program.specs.Program.{Proc}
use Rattle.nim_program.specs.View.{proc_of}
use Rattle.check_uses.specs.declared.known.Known.{Known}

abbrev pub all_procs : Known → List Proc
all_procs known = map (proc_of []) known.procs.now.items
