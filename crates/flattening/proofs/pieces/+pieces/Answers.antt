use Rattle.std.proofs.Common.{◌∙◌, ◌++◌, ◌∷◌, [], ap}
use Rattle.std.proofs.lemmas.Result.{on_ok_weaker}
use Rattle.nim_program.specs.View.{literal_of}
use Rattle.flat_code.specs.declared.line.Piece.TheVariants as P
use Rattle.flat_code.specs.Pieces.{pieces_of}
use Rattle.nim_program.proofs.ForCallers.{parts_of, elements_of}
use Rattle.flattening.proofs.Behind.{two_pieces}
use Rattle.flattening.proofs.pieces.+pieces.Goals as goal

pub add_pieces-returns-in_ok-add_all-in-Parts : goal.add_pieces-returns-in_ok-add_all-in-Parts
add_pieces-returns-in_ok-add_all-in-Parts t c =
    let whole = ap (λ l. pieces_of (literal_of l)) c.in-Parts.is ∙ ap pieces_of (parts_of c.in-Parts.all) in
    on_ok_weaker c.push-in-Parts.result (λ h. two_pieces c.args.pieces.now _ _ _ c.add_all.new.pieces c.push-in-Parts.new.self
    c.in_ok-add_all-in-Parts.ensures (h ∙ ap (λ n. c.add_all.new.pieces ++ P.Parts n ∷ []) c.in_ok-count-in-Parts.ensures) whole)
    c.push-in-Parts.ensures.ok

pub add_pieces-returns-in_ok-add_all-in-Elements : goal.add_pieces-returns-in_ok-add_all-in-Elements
add_pieces-returns-in_ok-add_all-in-Elements t c =
    let whole = ap (λ l. pieces_of (literal_of l)) c.in-Elements.is ∙ ap pieces_of (elements_of c.in-Elements.all) in
    on_ok_weaker c.push-in-Elements.result (λ h. two_pieces c.args.pieces.now _ _ _ c.add_all-in-Elements.new.pieces c.push-in-Elements.new.self
    c.in_ok-add_all-in-Elements.ensures (h ∙ ap (λ n. c.add_all-in-Elements.new.pieces ++ P.Elements n ∷ []) c.in_ok-count-in-Elements.ensures) whole)
    c.push-in-Elements.ensures.ok
