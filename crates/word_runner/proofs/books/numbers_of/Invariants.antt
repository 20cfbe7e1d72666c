use Rattle.std.proofs.Common.{◌≤◌, length}
use Rattle.word_runner.proofs.BookRows.{NumbersFrom}
use Rattle.word_runner.proofs.books.numbers_of.Given as goal

abbrev pub invariant-loop-i : goal.invariant-loop-i
invariant-loop-i l = (l.i ≤ length l.procs) × NumbersFrom l.i l.procs l.numbers.items

abbrev pub decreases-loop-i : goal.decreases-loop-i
decreases-loop-i l = l.i
