use Rattle.std.proofs.Common.{◌≡◌, ◌++◌, drop}
use Rattle.flat_code.proofs.copy.pieces_copied.Given as goal

-- with the pieces that are left, they are all
abbrev pub invariant-loop-piece : goal.invariant-loop-piece
invariant-loop-piece l = l.copy ++ drop l.piece-index l.pieces ≡ l.pieces
