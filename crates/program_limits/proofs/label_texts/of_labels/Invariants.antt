use Rattle.std.proofs.Common.{◌≤◌, length, drop}
use Rattle.std.specs.Prelude.{map}
use Rattle.nim_program.specs.View.{label_of}
use Rattle.program_limits.specs.Meeting.{Met, Found, branch_before}
use Rattle.program_limits.proofs.label_texts.of_labels.Given as goal

abbrev pub invariant-loop-i : goal.invariant-loop-i
invariant-loop-i l =
    (l.i ≤ length l.labels) × ((met : Found) → Met l.fn.texts met → Met l.texts (branch_before (map label_of (drop l.i l.labels)) met))

abbrev pub decreases-loop-i : goal.decreases-loop-i
decreases-loop-i l = l.i
