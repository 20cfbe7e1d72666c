use Rattle.std.proofs.Common.{List, ℕ, [], drop}
use Rattle.word_lowering.specs.LaidTexts.{AreLaid}
use Rattle.word_lowering.specs.Linked.{items_before}
use Rattle.word_lowering.proofs.LayingTexts.{IsLinking}
use Rattle.word_lowering.proofs.laid_texts.put_items.Given as goal

abbrev pub invariant-loop-piece : goal.invariant-loop-piece
invariant-loop-piece l =
    (texts : List (List ℕ)) → AreLaid l.from l.initial.laying texts
    → IsLinking l.from l.laying l.stack (drop l.piece-index l.pieces) (items_before l.from l.pieces [] texts)
