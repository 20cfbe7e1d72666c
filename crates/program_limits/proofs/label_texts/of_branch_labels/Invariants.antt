use Rattle.std.proofs.Common.{◌≤◌, length, drop}
use Rattle.nim_program.specs.View.{branch_labels}
use Rattle.program_limits.specs.Meeting.{Met, Found, labels_before}
use Rattle.program_limits.proofs.label_texts.of_branch_labels.Given as goal

abbrev pub invariant-loop-i : goal.invariant-loop-i
invariant-loop-i l =
    (l.i ≤ length l.branches.items) × ((met : Found) → Met l.fn.texts met → Met l.texts (labels_before (branch_labels (drop l.i l.branches.items)) met))

abbrev pub decreases-loop-i : goal.decreases-loop-i
decreases-loop-i l = l.i
