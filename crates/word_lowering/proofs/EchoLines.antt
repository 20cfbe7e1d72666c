-- Lines that write are followed.
use Rattle.std.proofs.Common.{append-nil, ◌≡◌, ℕ, suc, ◌+◌, List, [], ◌∷◌, ◌++◌, length, map, Option, Some, None, true, false, sym, subst, arith}
use Rattle.std.proofs.lemmas.Bool.{and_parts}
use Rattle.arc_base.specs.Event.{writes}
use Rattle.arc_base.specs.declared.outside.Stream.TheVariants.{Out}
use Rattle.nim_types.specs.Types.{Ty}
use Rattle.nim_types.specs.Table.{facts_in, type_at}
use Rattle.nim_program.specs.declared.operation.Operation.TheVariants as O
use Rattle.nim_program.specs.declared.operation.Use.TheVariants.{Lent}
use Rattle.flat_code.specs.declared.line.UseAt.{UseAt}
use Rattle.nim_program.specs.Fitting.{are_shown, plain as plain_of}
use Rattle.nim_program.specs.Kinds.{is_shown}
use Rattle.nim_program.specs.View.{if_type}
use Rattle.nim_meaning.specs.Acts.{line_of}
use Rattle.nim_meaning.specs.Deeds.{Answers, costs, give, looks, unless_gone, write, ◌>>=◌, ◌>>◌}
use Rattle.nim_meaning.specs.Places.{kept_if}
use Rattle.nim_meaning.specs.State.{is_seen}
use Rattle.nim_meaning.specs.Texts.{are_seen, shown as shown_text, texts_of}
use Rattle.nim_meaning.specs.Values.{Operand, location_of, nothing}
use Rattle.flat_code.specs.declared.block.BlockLine.{BlockLine}
use Rattle.flat_code.specs.declared.line.From.{From}
use Rattle.flat_code.specs.declared.line.Line.TheVariants as L
use Rattle.flat_code.specs.Fits as fit
use Rattle.flat_code.specs.Lines.{gives}
use Rattle.flat_code.specs.Running.{scene_of}
use Rattle.flat_code.specs.Scene.{Passes, Temps, with_value}
use Rattle.word_code.specs.declared.word.WordInstr.{WordInstr}
use Rattle.word_lowering.specs.declared.texts.TheConstants.{LINE_END_AT}
use Rattle.word_lowering.specs.LineCode.{operand, operands, text_code, texts_code, typed_code}
use Rattle.word_lowering.proofs.AllOperands.{Have, using_all_settles}
use Rattle.word_lowering.proofs.ApplyFits.{apply_line, row_does}
use Rattle.word_lowering.proofs.ControlLines.{plain, value_type}
use Rattle.word_lowering.proofs.LineFits.{no_type}
use Rattle.word_lowering.proofs.Lines.{Basis, IsGood, Settles, known, starts, bound_for, where_there}
use Rattle.word_lowering.proofs.Related.{Both, body_of, high}
use Rattle.word_lowering.proofs.Settling.{code_next}
use Rattle.word_lowering.proofs.ShapeFacts.{never}
use Rattle.word_lowering.proofs.Sites.{around}
use Rattle.word_lowering.proofs.StoreLines.{none_temps}
use Rattle.word_lowering.proofs.TextLines.{text_tells}
use Rattle.word_lowering.proofs.Told.{Tells, none_tells, tells_settles, then_at, then_good, then_tells}
use Rattle.word_lowering.proofs.OperandTexts.{AreTyped, TextsBuilt, placed_parts, typed_parts}
use Rattle.word_lowering.proofs.OwnedFits.{fits_row}
use Rattle.word_lowering.proofs.TextsWritten.{operand_tells}
use Rattle.word_lowering.proofs.WrittenLines.{Writing}

one_more : (n : ℕ) → 1 + n ≡ suc n
one_more n = omega arith

module _ (x : Basis) (said : Writing x) (texts : TextsBuilt x) (line : BlockLine) (rest : List BlockLine) where
  abbrev types_of : List (Option ℕ) → List (Option Ty)
  types_of tys = map (if_type (known x).types) tys

  -- which may be lent
  abbrev ArePlaced : List (Option ℕ) → List From → Type 0
  ArePlaced tys from = fit.are_placed (facts_in x.table) Lent 0 (types_of tys) from ≡ true

  texts_tell : (g : Both) (y : IsGood x (starts g line rest)) (k : List WordInstr) (tys : List (Option ℕ)) (from : List From) (xs : List Operand)
      → Have g.call.temps from xs → AreTyped x g (types_of tys) from → are_shown (facts_in x.table) (types_of tys) ≡ true → ArePlaced tys from
      → are_seen g.world xs ≡ true
      → Tells x said.least g line rest y (length xs)
      (texts_code (around x.table x.blocks (body_of g)) tys (operands (around x.table x.blocks (body_of g)) from) k) k
      (texts_of (facts_in x.table) g.world (types_of tys) xs)
  texts_tell g y k [] [] [] have typed shown placed seen = none_tells x said.least g line rest y 0 k
  texts_tell g y k [] [] (z ∷ xs) have typed shown placed seen = absurd have
  texts_tell g y k [] (f ∷ from) xs have typed shown placed seen = never typed
  texts_tell g y k (ty ∷ tys) [] xs have typed shown placed seen = never typed
  texts_tell g y k (ty ∷ tys) (f ∷ from) [] have typed shown placed seen = absurd have
  texts_tell g y k (None ∷ tys) (f ∷ from) (z ∷ xs) have typed shown placed seen = never shown
  texts_tell g y k (Some ty ∷ tys) (f ∷ from) (z ∷ xs) have typed shown placed seen =
      let here = around x.table x.blocks (body_of g) in
      let type : Ty = type_at (known x).types ty in
      let p = typed_parts x g f (Some type) (types_of tys) from typed in
      let s = and_parts (is_shown (plain_of (facts_in x.table) (Some type))) (are_shown (facts_in x.table) (types_of tys)) shown in
      let q = placed_parts (facts_in x.table) Lent f (Some type) (types_of tys) from placed in
      let i = and_parts (is_seen g.world (location_of z)) (are_seen g.world xs) seen in
      let behind : List WordInstr = texts_code here tys (operands here from) k in
      let first = operand_tells x said texts g line rest y behind ty z i.0 f have.0 p.0 q.0 in
      let lines : List WordInstr = typed_code here (Some ty) (operand here f) behind in
      let text : List ℕ = shown_text (facts_in x.table) g.world (Some type) z in
      subst (λ n. Tells x said.least g line rest y n lines k (text ++ texts_of (facts_in x.table) g.world (types_of tys) xs)) (one_more (length xs))
      (then_tells x said.least g line rest y 1 lines behind text first (length xs) k (texts_of (facts_in x.table) g.world (types_of tys) xs)
      (texts_tell (then_at x said.least g line rest y 1 lines behind text first) (then_good x said.least g line rest y 1 lines behind text first) k tys from xs
      have.1 p.1 s.1 q.1 i.1))

  -- and a line end behind them
  line_tells : (g : Both) (y : IsGood x (starts g line rest)) (k : List WordInstr) (tys : List (Option ℕ)) (from : List From) (xs : List Operand)
      → Have g.call.temps from xs → AreTyped x g (types_of tys) from → are_shown (facts_in x.table) (types_of tys) ≡ true → ArePlaced tys from
      → are_seen g.world xs ≡ true
      → Tells x said.least g line rest y (length xs + 0)
      (texts_code (around x.table x.blocks (body_of g)) tys (operands (around x.table x.blocks (body_of g)) from) (text_code LINE_END_AT 1 k)) k
      (line_of (texts_of (facts_in x.table) g.world (types_of tys) xs))
  line_tells g y k tys from xs have typed shown placed seen =
      let here = around x.table x.blocks (body_of g) in
      let end : List WordInstr = text_code LINE_END_AT 1 k in
      let lines : List WordInstr = texts_code here tys (operands here from) end in
      let text : List ℕ = texts_of (facts_in x.table) g.world (types_of tys) xs in
      let first = texts_tell g y end tys from xs have typed shown placed seen in
      then_tells x said.least g line rest y (length xs) lines end text first 0 k (10 ∷ [])
      (text_tells x said.least (then_at x said.least g line rest y (length xs) lines end text first) line rest
      (then_good x said.least g line rest y (length xs) lines end text first) 0 LINE_END_AT (10 ∷ []) k said.literals.line_end)

module _ (x : Basis) (said : Writing x) (texts : TextsBuilt x) (g : Both) (rest : List BlockLine) (to : ℕ) (how : UseAt) where
  pub echo_line : (ty : Option ℕ) (of : List (Option ℕ)) (from : List From)
      → (y : IsGood x (starts g (apply_line x g rest to O.Echo how ty of from) rest))
      → Settles x (starts g (apply_line x g rest to O.Echo how ty of from) rest) rest (row_does x g rest to O.Echo how ty of from)
  echo_line (Some ty) of from y = never (fits_row x g rest to O.Echo how (Some ty) of from y).row
  echo_line None of from y =
      let line = plain (L.Apply to O.Echo how None of from) in
      let f = fits_row x g rest to O.Echo how None of from y in
      let temps : Temps = with_value to g.call.temps nothing in
      let same_at = none_temps x g line rest y to (no_type (value_type x g line rest y to) f.given) in
      let texts_are : List Operand → List ℕ = λ xs. line_of (texts_of (facts_in x.table) g.world (map (if_type (known x).types) of) xs) in
      using_all_settles x (starts g line rest) rest g.call.temps from
      (λ xs. gives (scene_of (high x.table x.blocks (starts g line rest))) to
      (costs 1 (costs (length xs) (looks (λ world. unless_gone (are_seen world xs)
      (write Out (line_of (texts_of (facts_in x.table) world (map (if_type (known x).types) of) xs))))) >> give nothing)
      >>= kept_if false (bound_for g how)))
      (λ xs have. where_there x (starts g line rest) rest (are_seen g.world xs)
      (λ b. gives (scene_of (high x.table x.blocks (starts g line rest))) to
      (costs 1 (costs (length xs) (unless_gone b (write Out (texts_are xs))) >> give nothing) >>= kept_if false (bound_for g how))) (λ before. tt)
      (λ seen. subst (λ es. Settles x (starts g line rest) rest (Passes (Answers es (1 + (length xs + (length (texts_are xs) + 0))) temps g.world)))
      (sym (append-nil (writes Out (texts_are xs))))
      (tells_settles x said.least g line rest y temps same_at (length xs + 0) (texts_are xs)
      (line_tells x said texts line rest g y (code_next x g line rest y) of from xs have f.typed f.row f.placed seen)
      (1 + (length xs + (length (texts_are xs) + 0))) (omega arith))))
