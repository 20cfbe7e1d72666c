use Rattle.std.proofs.Common.{◌≡◌, ◌++◌, List, length}
use Rattle.word_code.specs.declared.word.WordInstr.{WordInstr}
use Rattle.word_lowering.specs.LineCode.{operands}
use Rattle.word_lowering.specs.OwnedCode.{elements_code}
use Rattle.word_lowering.specs.Scope.{around_of}
use Rattle.word_lowering.proofs.sequence_rows.emit_elements.Given as goal

-- with what is left, it is all
abbrev pub invariant-loop-operand : goal.invariant-loop-operand
invariant-loop-operand l =
    (k : List WordInstr) → l.code ++ elements_code l.size (operands (around_of l.x) l.left) k
    ≡ l.initial.code ++ elements_code l.size (operands (around_of l.x) l.from) k

abbrev pub decreases-loop-operand : goal.decreases-loop-operand
decreases-loop-operand l = length l.left
