use Rattle.std.proofs.Common.{◌≡◌, ◌++◌, drop}
use Rattle.flat_code.specs.Pieces.{standing_bytes}
use Rattle.word_lowering.proofs.standing.standing_bytes.Given as goal

-- with what is left, it is all
abbrev pub invariant-loop-piece : goal.invariant-loop-piece
invariant-loop-piece l = l.bytes ++ standing_bytes (drop l.piece-index l.pieces) ≡ standing_bytes l.pieces
