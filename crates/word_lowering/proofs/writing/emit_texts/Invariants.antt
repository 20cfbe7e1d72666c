use Rattle.std.proofs.Common.{◌≡◌, ◌++◌, List, length}
use Rattle.word_code.specs.declared.word.WordInstr.{WordInstr}
use Rattle.word_lowering.specs.LineCode.{texts_code, operands}
use Rattle.word_lowering.specs.Scope.{around_of}
use Rattle.word_lowering.proofs.writing.emit_texts.Given as goal

-- with what is left, it is all
abbrev pub invariant-loop-ty : goal.invariant-loop-ty
invariant-loop-ty l =
    (k : List WordInstr) → l.code ++ texts_code (around_of l.x) l.tys (operands (around_of l.x) l.left) k
    ≡ l.initial.code ++ texts_code (around_of l.x) l.of (operands (around_of l.x) l.from) k

abbrev pub decreases-loop-ty : goal.decreases-loop-ty
decreases-loop-ty l = length l.tys
