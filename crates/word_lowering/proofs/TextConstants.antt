-- A temporary gets a literal that somebody owns then: a copy of it.
use Rattle.std.proofs.Common.{◌≡◌, ℕ, List, [], ◌∷◌, map, Some, true, false, refl, sym, ap, subst, ◌∙◌}
use Rattle.std.specs.Set.{is_member}
use Rattle.nim_types.specs.Table.{facts_in, type_at}
use Rattle.nim_types.specs.Types.{Ty, same_text}
use Rattle.nim_meaning.specs.Deeds.{costs, give, ◌>>=◌}
use Rattle.nim_meaning.specs.Lifted.{fresh_text}
use Rattle.nim_meaning.specs.Values.{Fixed}
use Rattle.flat_code.specs.declared.block.BlockLine.{BlockLine}
use Rattle.flat_code.specs.declared.line.Line.TheVariants as L
use Rattle.flat_code.specs.declared.line.Piece.TheVariants as P
use Rattle.flat_code.specs.declared.line.UseAt.{UseAt}
use Rattle.flat_code.specs.Codes.{block_plain}
use Rattle.flat_code.specs.Lines.{gives}
use Rattle.flat_code.specs.Running.{scene_of}
use Rattle.flat_code.specs.Shapes.{Shape, block, has_shape, shape_of}
use Rattle.flat_code.specs.Sizes.{lines_texts}
use Rattle.word_lowering.specs.declared.handed.TheConstants.{LEFT_HANDLE_AT}
use Rattle.word_lowering.specs.declared.homes.Home.TheVariants.{Static}
use Rattle.word_lowering.specs.Aliases.{is_read, text_alias}
use Rattle.word_lowering.specs.LineCode.{constant_by}
use Rattle.word_lowering.specs.OwnedCode.{text_copy_code}
use Rattle.word_lowering.specs.RoutineCode.{copy_code}
use Rattle.word_lowering.specs.Stored.{is_hooked}
use Rattle.word_lowering.proofs.ConstantFits.{constant_shape, constant_typed}
use Rattle.word_lowering.proofs.ConstantWords.{text_among}
use Rattle.word_lowering.proofs.ControlLines.{plain}
use Rattle.word_lowering.proofs.CopyLines.{copy_settles}
use Rattle.word_lowering.proofs.HookedMoves.{bits_target}
use Rattle.word_lowering.proofs.LaidHandles.{text_handle}
use Rattle.word_lowering.proofs.Lines.{Basis, IsGood, Settles, known, starts}
use Rattle.word_lowering.proofs.OperandTexts.{TextsBuilt}
use Rattle.word_lowering.proofs.Related.{Both, body_of, high}
use Rattle.word_lowering.proofs.RowOperands.{HasHandleAt}
use Rattle.word_lowering.proofs.Scenes.{house, of_value}
use Rattle.word_lowering.proofs.Settling.{code_here, code_next}
use Rattle.word_lowering.proofs.ShapeFacts.{never}
use Rattle.word_lowering.proofs.Sites.{around, is_one_word, lines_of}
use Rattle.word_lowering.proofs.Targets.{texts_behind}
use Rattle.word_lowering.proofs.WrittenLines.{Writing}

pub text_look : (s : Shape) (text : List ℕ) → has_shape (Fixed text) s ≡ true → s ≡ block
text_look block text h = refl
text_look s text h = never h

module _ (x : Basis) (said : Writing x) (texts : TextsBuilt x) (g : Both) (rest : List BlockLine) (to : ℕ) (how : UseAt) (ty : ℕ) (text : List ℕ) where
  abbrev naming : BlockLine
  naming = plain (L.Constant to how ty (P.Text text ∷ []))

  abbrev to_type : Ty
  to_type = type_at (known x).types ty

  pub owned_text : is_read how.how ≡ false → (y : IsGood x (starts g naming rest)) → Settles x (starts g naming rest) rest
      (gives (scene_of (high x.table x.blocks (starts g naming rest))) to (costs 1 (fresh_text text) >>= (λ v. give v)))
  owned_text owned y =
      let f = (constant_shape x g rest to how ty (P.Text text ∷ []) y).shaped in
      let shape : shape_of (facts_in x.table) to_type ≡ block = text_look (shape_of (facts_in x.table) to_type) text f in
      let t = bits_target x g naming rest y to to_type refl (ap (λ b. text_alias b (texts_behind x g naming rest y) (Some text)) owned)
      (constant_typed x g rest to how ty (P.Text text ∷ []) y) (ap is_one_word shape) in
      let among : is_member same_text (lines_texts (lines_of (body_of g))) text ≡ true
      = ap (λ l. is_member same_text (lines_texts (map block_plain l)) text) y.stands.whole ∙ text_among naming text [] refl y.stands.before rest in
      let home = (house g.call.site (of_value to)).home in
      let h = text_handle x said texts g naming rest y text among (copy_code home (Static LEFT_HANDLE_AT) (code_next x g naming rest y)) in
      let code : text_copy_code (around x.table x.blocks (body_of g)) home text (code_next x g naming rest y) ≡ code_here x g naming rest y
      = sym (ap (λ b. constant_by (around x.table x.blocks (body_of g)) b (is_hooked x.table ty) (Some text) ty (house g.call.site (of_value to)) (P.Text
      text ∷ [])
      (code_next x g naming rest y)) owned) in
      copy_settles x said g naming rest y to t.there t.inside (t.look ∙ shape) (Static LEFT_HANDLE_AT) text
      (subst (λ l. HasHandleAt x said g naming rest y LEFT_HANDLE_AT l (copy_code home (Static LEFT_HANDLE_AT) (code_next x g naming rest y))
      (Static LEFT_HANDLE_AT) text) code h)
