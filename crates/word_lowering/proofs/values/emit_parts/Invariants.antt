use Rattle.std.proofs.Common.{◌≡◌, ◌++◌, drop, List}
use Rattle.word_code.specs.declared.word.WordInstr.{WordInstr}
use Rattle.word_lowering.specs.LineCode.{parts_code, operands}
use Rattle.word_lowering.specs.Scope.{around_of}
use Rattle.word_lowering.proofs.values.emit_parts.Given as goal

-- with what is left, it is all
abbrev pub invariant-loop-from : goal.invariant-loop-from
invariant-loop-from l =
    (k : List WordInstr) → l.code ++ parts_code l.to (operands (around_of l.x) (drop l.from-index l.parts)) k
    ≡ l.initial.code ++ parts_code l.initial.to (operands (around_of l.x) l.parts) k
