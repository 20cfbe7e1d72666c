use Rattle.std.proofs.Common.{◌≤◌, length, drop}
use Rattle.nim_program.specs.View.{pick_labels}
use Rattle.program_limits.specs.Meeting.{Met, Found, labels_before}
use Rattle.program_limits.proofs.label_texts.of_pick_labels.Given as goal

abbrev pub invariant-loop-i : goal.invariant-loop-i
invariant-loop-i l =
    (l.i ≤ length l.picks.items) × ((met : Found) → Met l.fn.texts met → Met l.texts (labels_before (pick_labels (drop l.i l.picks.items)) met))

abbrev pub decreases-loop-i : goal.decreases-loop-i
decreases-loop-i l = l.i
