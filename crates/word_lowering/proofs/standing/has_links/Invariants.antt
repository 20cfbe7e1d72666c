use Rattle.std.proofs.Common.{◌≡◌, drop}
use Rattle.flat_code.specs.Pieces.{has_links}
use Rattle.word_lowering.proofs.standing.has_links.Given as goal

-- none so far
abbrev pub invariant-loop-piece : goal.invariant-loop-piece
invariant-loop-piece l = has_links (drop l.piece-index l.pieces) ≡ has_links l.pieces
