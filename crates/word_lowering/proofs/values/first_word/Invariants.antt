use Rattle.std.proofs.Common.{◌≡◌, drop}
use Rattle.flat_code.specs.Pieces.{piece_words}
use Rattle.word_lowering.specs.LineCode.{first_word}
use Rattle.word_lowering.proofs.values.first_word.Given as goal

-- with what is left, it is all
abbrev pub invariant-loop-piece : goal.invariant-loop-piece
invariant-loop-piece l = first_word (piece_words (drop l.piece-index l.pieces)) ≡ first_word (piece_words l.pieces)
