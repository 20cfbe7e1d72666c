use Rattle.std.proofs.Common.{◌≡◌, ◌++◌, drop, List}
use Rattle.word_code.specs.declared.word.WordInstr.{WordInstr}
use Rattle.word_lowering.specs.LineCode.{pieces_code}
use Rattle.word_lowering.proofs.values.emit_pieces.Given as goal

-- with what is left, it is all
abbrev pub invariant-loop-piece : goal.invariant-loop-piece
invariant-loop-piece l =
    (k : List WordInstr) → l.code ++ pieces_code l.to (drop l.piece-index l.pieces) k
    ≡ l.initial.code ++ pieces_code l.initial.to l.pieces k
