use Rattle.std.proofs.Common.{ℕ, List, ◌∙◌, sym, ap}
use Rattle.std.specs.Set.{unique_keys}
use Rattle.nim_types.specs.Types.{same_text}
use Rattle.word_lowering.specs.Linked.{items_before, elements_before, with_piece, item_of, item_address}
use Rattle.word_lowering.proofs.LayingTexts.{next_piece}
use Rattle.word_lowering.proofs.laid_texts.put_items.Goals as goal

pub loop-piece-preserved : goal.loop-piece-preserved
loop-piece-preserved c texts h =
    let at = c.loop-piece.invariant texts h in
    let piece = c.piece-item.result in
    let met : List (List ℕ) = elements_before piece at.values at.met in
    let laid = c.in_ok-put_elements.ensures.laid at.met at.values at.laid at.stacked in
    let there : List (List ℕ) = unique_keys same_text met in
    record {
      values = with_piece piece (item_address c.args.from there (item_of piece at.values)) at.values;
      met = met;
      laid = laid;
      stacked = c.in_ok-push_placed.ensures there at.values (laid.places c.in_ok-put_elements.ensures.kept) at.stacked;
      is = sym (ap (λ ps. items_before c.args.from ps at.values at.met)
          (next_piece c.args.pieces.now c.loop-piece.piece-index piece c.piece-item.is c.loop-piece-test.true)) ∙ at.is;
    }
