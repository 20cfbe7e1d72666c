use Rattle.std.proofs.Common.{◌≤◌, length}
use Rattle.word_runner.proofs.BookRows.{LabelsFrom}
use Rattle.word_runner.proofs.books.labels_of.Given as goal

abbrev pub invariant-loop-i : goal.invariant-loop-i
invariant-loop-i l = (l.i ≤ length l.lines) × LabelsFrom l.i l.lines l.labels.items

abbrev pub decreases-loop-i : goal.decreases-loop-i
decreases-loop-i l = l.i
