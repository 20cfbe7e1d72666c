use Rattle.std.proofs.Common.{◌≡◌, ℕ, List, false, take, get_or, map}
use Rattle.nim_types.specs.Types.{Ty}
use Rattle.nim_program.specs.View.{declared_of}
use Rattle.nim_program.specs.Sizes.{is_global}
use Rattle.nim_program.proofs.sizes.global_marks.Given as goal

abbrev pub invariant-loop-place : goal.invariant-loop-place
invariant-loop-place l =
    (ts : List Ty) (n : ℕ) → get_or l.marks.items n false ≡ is_global (map (declared_of ts) (take l.place-index l.globals)) n
