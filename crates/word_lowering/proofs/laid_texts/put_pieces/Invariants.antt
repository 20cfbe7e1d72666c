use Rattle.std.proofs.Common.{ℕ, List, ◌≤◌, length, drop}
use Rattle.word_lowering.specs.LaidTexts.{AreLaid}
use Rattle.word_lowering.specs.Linked.{pieces_before}
use Rattle.word_lowering.proofs.laid_texts.put_pieces.Given as goal

-- those from there on
abbrev pub invariant-loop-i : goal.invariant-loop-i
invariant-loop-i l =
    (l.i ≤ length l.pieces)
    × ((texts : List (List ℕ)) → AreLaid l.from l.initial.laying texts → AreLaid l.from l.laying (pieces_before (drop l.i l.pieces) texts))

abbrev pub decreases-loop-i : goal.decreases-loop-i
decreases-loop-i l = l.i
