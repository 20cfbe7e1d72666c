use Rattle.std.proofs.Common.{◌≡◌, ◌++◌, List, drop}
use Rattle.word_code.specs.declared.word.WordInstr.{WordInstr}
use Rattle.word_lowering.specs.WaitingCode.{none_code}
use Rattle.word_lowering.proofs.nodes.emit_none.Given as goal

-- with what is left, it is all
abbrev pub invariant-loop-w : goal.invariant-loop-w
invariant-loop-w l = (k : List WordInstr) → l.code ++ none_code (drop l.w-index l.all) k ≡ l.initial.code ++ none_code l.all k
