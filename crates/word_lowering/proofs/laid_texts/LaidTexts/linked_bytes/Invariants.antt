use Rattle.word_lowering.proofs.LayingTexts.{PlacesFrom}
use Rattle.word_lowering.proofs.laid_texts.LaidTexts.linked_bytes.Given as goal

abbrev pub invariant-loop-piece : goal.invariant-loop-piece
invariant-loop-piece l = PlacesFrom l.pieces l.stack l.piece-index l.self
