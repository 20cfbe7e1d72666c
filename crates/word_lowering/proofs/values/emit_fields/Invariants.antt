use Rattle.std.proofs.Common.{◌≡◌, ◌++◌, List, length}
use Rattle.word_code.specs.declared.word.WordInstr.{WordInstr}
use Rattle.word_lowering.specs.LineCode.{fields_code, operands}
use Rattle.word_lowering.specs.Scope.{around_of}
use Rattle.word_lowering.proofs.values.emit_fields.Given as goal

-- with what is left, it is all
abbrev pub invariant-loop-field : goal.invariant-loop-field
invariant-loop-field l =
    (k : List WordInstr) → l.code ++ fields_code (around_of l.x) l.to l.ty l.numbers (operands (around_of l.x) l.left) k
    ≡ l.initial.code ++ fields_code (around_of l.x) l.to l.ty l.fields (operands (around_of l.x) l.parts) k

abbrev pub decreases-loop-field : goal.decreases-loop-field
decreases-loop-field l = length l.numbers
