use Rattle.std.proofs.Common.{◌≤◌, length, drop}
use Rattle.nim_program.specs.View.{literals_of}
use Rattle.program_limits.specs.Meeting.{Met, Found, all_before}
use Rattle.program_limits.proofs.texts.+literals.Given as goal

abbrev pub invariant-of_literals-loop-i : goal.invariant-of_literals-loop-i
invariant-of_literals-loop-i l =
    (l.i ≤ length l.all.items)
    × ((met : Found) → Met l.fn.texts met → Met l.texts (all_before (literals_of (drop l.i l.all.items)) met))

abbrev pub decreases-of_literals-loop-i : goal.decreases-of_literals-loop-i
decreases-of_literals-loop-i l = l.i
