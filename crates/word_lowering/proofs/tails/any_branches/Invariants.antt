use Rattle.std.proofs.Common.{◌≡◌, drop}
use Rattle.word_lowering.specs.Lowered.{any_branches}
use Rattle.word_lowering.proofs.tails.any_branches.Given as goal

-- with what is left, it is all
abbrev pub invariant-loop-line : goal.invariant-loop-line
invariant-loop-line l = any_branches l.label (drop l.line-index l.lines) ≡ any_branches l.label l.lines
