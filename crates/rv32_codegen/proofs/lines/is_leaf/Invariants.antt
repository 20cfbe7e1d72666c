use Rattle.std.proofs.Common.{◌≡◌, length}
use Rattle.rv32_codegen.specs.Code.{is_leaf}
use Rattle.rv32_codegen.proofs.lines.is_leaf.Given as goal

-- with what is left, it is all
abbrev pub invariant-loop-line : goal.invariant-loop-line
invariant-loop-line l = is_leaf l.left ≡ is_leaf l.words

abbrev pub decreases-loop-line : goal.decreases-loop-line
decreases-loop-line l = length l.left
