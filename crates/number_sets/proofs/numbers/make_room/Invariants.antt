use Rattle.std.proofs.Common.{ℕ, ◌-◌, List, length}
use Rattle.number_sets.specs.Numbers.{AreStamped}
use Rattle.number_sets.proofs.numbers.make_room.Given as goal

abbrev pub invariant-loop-stamps : goal.invariant-loop-stamps
invariant-loop-stamps l = (now : ℕ) (numbers : List ℕ) → AreStamped now l.initial.stamps.items numbers → AreStamped now l.stamps.items numbers

abbrev pub decreases-loop-stamps : goal.decreases-loop-stamps
decreases-loop-stamps l = l.count - length l.stamps.items
