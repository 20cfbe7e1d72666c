use Rattle.std.proofs.Common.{◌≡◌, ℕ, ◌-◌, false, length, get_or}
use Rattle.nim_program.proofs.sizes.make_room.Given as goal

abbrev pub invariant-loop-marks : goal.invariant-loop-marks
invariant-loop-marks l = (n : ℕ) → get_or l.marks.items n false ≡ get_or l.initial.marks.items n false

abbrev pub decreases-loop-marks : goal.decreases-loop-marks
decreases-loop-marks l = l.len - length l.marks.items
