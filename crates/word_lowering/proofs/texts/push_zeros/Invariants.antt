use Rattle.std.proofs.Common.{◌≡◌, ◌++◌, replicate}
use Rattle.word_lowering.proofs.texts.push_zeros.Given as goal

-- with what is left, it is all
abbrev pub invariant-loop-left : goal.invariant-loop-left
invariant-loop-left l = l.bytes ++ replicate l.left 0 ≡ l.initial.bytes ++ replicate l.count 0

abbrev pub decreases-loop-left : goal.decreases-loop-left
decreases-loop-left l = l.left
