use Rattle.std.proofs.Common.{ℕ, List, ◌≡◌, ◌+◌, ◌∙◌, sym, ap, subst}
use Rattle.word_lowering.specs.LaidTexts.{LaidCode}
use Rattle.word_lowering.specs.Linked.{laid_out, with_pieces, with_piece, item_of, item_address}
use Rattle.word_lowering.proofs.LayingTexts.{PlacesFrom, next_piece}
use Rattle.word_lowering.proofs.laid_texts.LaidTexts.linked_bytes.Goals as goal

pub loop-piece-preserved : goal.loop-piece-preserved
loop-piece-preserved c =
    let piece = c.piece-item.result in
    let index : ℕ = c.loop-piece.piece-index in
    let pieces = c.args.pieces.now in
    let code : LaidCode = record { from = c.self.inside.from; procs = c.self.inside.procs.now } in
    let same : c.args.self.now ≡ code = sym c.self.view_is in
    let at = subst (PlacesFrom pieces c.loop-piece.stack index) same c.loop-piece.invariant in
    let texts : List (List ℕ) = laid_out code.from code.procs in
    subst (PlacesFrom pieces c.push_placed.new.stack (index + 1)) (sym same) (record {
      values = with_piece piece (item_address code.from texts (item_of piece at.values)) at.values;
      stacked = c.in_ok-push_placed.ensures texts at.values c.self.invariant.finds at.stacked;
      is = sym (ap (λ ps. with_pieces code.from texts ps at.values) (next_piece pieces index piece c.piece-item.is c.loop-piece-test.true)) ∙ at.is;
    })
