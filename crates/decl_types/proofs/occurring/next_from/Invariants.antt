use Rattle.std.proofs.Common.{◌≡◌, ◌-◌, length, drop}
use Rattle.decl_types.specs.ViewMarks.{next_from}
use Rattle.decl_types.proofs.occurring.next_from.Given as goal

abbrev pub invariant-loop-definition : goal.invariant-loop-definition
invariant-loop-definition l = next_from l.marks l.from (drop l.from l.read) ≡ next_from l.marks l.number (drop l.number l.read)

abbrev pub decreases-loop-definition : goal.decreases-loop-definition
decreases-loop-definition l = length l.read - l.number
