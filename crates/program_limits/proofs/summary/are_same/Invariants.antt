use Rattle.std.proofs.Common.{◌≡◌, length}
use Rattle.program_limits.proofs.summary.are_same.Given as goal

-- where what is left is the same, all is
abbrev pub invariant-loop-one : goal.invariant-loop-one
invariant-loop-one l = l.left ≡ l.other → l.a ≡ l.b

abbrev pub decreases-loop-one : goal.decreases-loop-one
decreases-loop-one l = length l.left
