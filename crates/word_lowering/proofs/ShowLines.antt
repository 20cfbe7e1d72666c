-- A temporary gets the text of a value: the line is followed, by what the table says of the value's type.
use Rattle.std.proofs.Common.{◌≡◌, ℕ, zero, suc, ◌+◌, ◌*◌, ◌^◌, ◌<◌, ◌≤◌, List, [], ◌∷◌, length, Option, Some, None, true, false, ℤ, pos, negsuc, refl, sym, ap}
use Rattle.std.proofs.Common.{subst, ◌∙◌, arith}
use Rattle.std.specs.Fmt.{signed_decimal}
use Rattle.arc_base.specs.declared.place.Place.{Place as At}
use Rattle.std.specs.Prelude.{codes, slice_get, unsigned_abs, ◌||◌}
use Rattle.std.proofs.lemmas.Bool.{and_parts}
use Rattle.nim_types.specs.declared.types.TypeDef.{TypeDef}
use Rattle.nim_types.specs.declared.types.TypeDef.TheVariants as D
use Rattle.nim_types.specs.Table.{facts_in, type_at, types_in}
use Rattle.nim_types.specs.Types.{Ty}
use Rattle.nim_program.specs.declared.operation.Operation.TheVariants as O
use Rattle.nim_program.specs.declared.operation.Use.TheVariants.{Looked}
use Rattle.nim_program.specs.Ints.{fits as is_int_number, is_true, low_byte}
use Rattle.nim_program.specs.Kinds.{is_shown, is_text, kind_if}
use Rattle.nim_program.specs.Fitting.{plain as plain_of}
use Rattle.nim_program.specs.Texts.{bool_text, name_in}
use Rattle.nim_program.specs.View.{if_type}
use Rattle.nim_meaning.specs.Deeds.{costs, give, ◌>>=◌}
use Rattle.nim_meaning.specs.Here.{gives_hooked}
use Rattle.nim_meaning.specs.Lifted.{fresh_text}
use Rattle.nim_meaning.specs.OwnedRows.{owned}
use Rattle.nim_meaning.specs.Shapes.{is_given, is_lent}
use Rattle.nim_meaning.specs.State.{is_seen, is_there, is_whole, load, text_of}
use Rattle.nim_meaning.specs.Table.{does}
use Rattle.nim_meaning.specs.Texts.{are_seen, shown}
use Rattle.nim_meaning.specs.Values.{Operand, Value, location_of, number_of, value_of}
use Rattle.flat_code.specs.declared.block.BlockLine.{BlockLine}
use Rattle.flat_code.specs.declared.line.From.{From}
use Rattle.flat_code.specs.declared.line.From.TheVariants as F
use Rattle.flat_code.specs.declared.line.UseAt.{UseAt}
use Rattle.flat_code.specs.Fits as fit
use Rattle.flat_code.specs.Fits.{is_value, may_stand}
use Rattle.flat_code.specs.Lines.{gives}
use Rattle.flat_code.specs.Running.{scene_of}
use Rattle.flat_code.specs.Shapes.{Shape, block, number, shape_of}
use Rattle.rv32_isa.specs.Values.{signed}
use Rattle.word_code.specs.declared.word.WordInstr.{WordInstr}
use Rattle.word_lowering.specs.declared.handed.TheConstants.{LEFT_HANDLE_AT}
use Rattle.word_lowering.specs.declared.homes.TheConstants.{OWN_FROM}
use Rattle.word_lowering.specs.declared.homes.Home.{Home as Place}
use Rattle.word_lowering.specs.declared.homes.Home.TheVariants.{Static}
use Rattle.word_lowering.specs.Operands.{Around, variable_of}
use Rattle.word_lowering.specs.Operations.{word}
use Rattle.word_lowering.specs.OwnedCode.{entry_home, name_text, no_text_code, shown_code}
use Rattle.word_lowering.specs.RoutineCode.{copy_code, show_code}
use Rattle.word_lowering.specs.Stored.{base_at, entry_at}
use Rattle.word_lowering.specs.Texts.{names_at, names_before}
use Rattle.word_lowering.proofs.AllOperands.{Have, given_load, given_value}
use Rattle.word_lowering.proofs.ApplyFits.{apply_line}
use Rattle.word_lowering.proofs.Arithmetic.{fits_signed, signed_word, word_small}
use Rattle.word_lowering.proofs.ControlLines.{value_type}
use Rattle.word_lowering.proofs.CopyLines.{copy_settles}
use Rattle.word_lowering.proofs.HookedMoves.{BitsTo, bits_target}
use Rattle.word_lowering.proofs.JoinedTypes.{text_looks}
use Rattle.word_lowering.proofs.LineFits.{some_kind}
use Rattle.word_lowering.proofs.Lines.{Basis, IsGood, Settles, known, starts}
use Rattle.word_lowering.proofs.NameHandles.{bool_handle, name_handle}
use Rattle.word_lowering.proofs.NewLines.{show_settles}
use Rattle.word_lowering.proofs.OperandLines.{value_type_by}
use Rattle.word_lowering.proofs.OperandTexts.{TextsBuilt, text_value_has, typed_parts}
use Rattle.word_lowering.proofs.OwnedFits.{FitsRow, fits_row, OwnedRow}
use Rattle.word_lowering.proofs.Related.{Both, body_of, high}
use Rattle.word_lowering.proofs.RowOperands.{HasHandleAt, char_here, empty_handle}
use Rattle.word_lowering.proofs.Scenes.{house, of_value}
use Rattle.word_lowering.proofs.Settling.{code_here, code_next}
use Rattle.word_lowering.proofs.ShapeFacts.{never}
use Rattle.word_lowering.proofs.Sites.{around, data_end, is_one_word}
use Rattle.word_lowering.proofs.TypeEntries.{entry_text}
use Rattle.word_lowering.proofs.TypeShapes.{Looks}
use Rattle.word_lowering.proofs.ValueFacts.{type_in}
use Rattle.word_lowering.proofs.WrittenLines.{Writing, read, small, small_word, some_of}
use Rattle.std.proofs.lemmas.Int.{ints}
use Rattle.std.proofs.lemmas.Fmt.{length-decimal-le_succ}

-- the text of an int has few characters
decimal_short : (z : ℤ) → is_int_number z ≡ true → length (signed_decimal z) < 2 ^ 32
decimal_short (pos n) f =
    let h = fits_signed (pos n) f in let l = length-decimal-le_succ n (omega (arith, ints, h)) in omega (arith, ints, h, l)
decimal_short (negsuc n) f =
    let h = fits_signed (negsuc n) f in let l = length-decimal-le_succ (suc n) (omega (arith, ints, h)) in omega (arith, ints, h, l)

module _ (x : Basis) (said : Writing x) (texts : TextsBuilt x) (g : Both) (line : BlockLine) (rest : List BlockLine) (y : IsGood x (starts g line rest))
    (to : ℕ) (there_block : BitsTo x g line rest y (of_value to) block) (t ty : ℕ) (v : Value)
    (typed : type_in x is_value (body_of g) t ≡ Some (type_at (types_in x.table) ty)) (e : g.call.temps.values t ≡ Some v)
    (whole : is_whole g.world v ≡ true) where
  abbrev here : Around
  here = around x.table x.blocks (body_of g)

  abbrev home : Place
  home = (house g.call.site (of_value to)).home

  abbrev next : List WordInstr
  next = code_next x g line rest y

  abbrev shape : Shape
  shape = shape_of (facts_in x.table) (type_at (types_in x.table) ty)

  abbrev held : ℕ
  held = variable_of (house g.call.site (of_value t))

  abbrev Gives : List ℕ → Type 0
  Gives text = Settles x (starts g line rest) rest
      (gives (scene_of (high x.table x.blocks (starts g line rest))) to (costs 1 (fresh_text text) >>= (λ a. give a)))

  -- an int is spelled
  spelled : shape ≡ number None → code_here x g line rest y ≡ show_code home held next → Gives (signed_decimal (number_of v))
  spelled is code =
      let o = read x said g line rest y t ty v typed e next g.world None is in
      let z : ℤ = number_of v in
      let same : signed (word z) ≡ z = signed_word z o.fits in
      subst (λ n. Gives (signed_decimal n)) same
      (show_settles x g line rest y to there_block.there there_block.inside there_block.look (word z) (word_small z o.fits)
      (subst (λ n. length (signed_decimal n) < 2 ^ 32) (sym same) (decimal_short z o.fits)) held o.high o.word_is code)

  -- all else is copied, from a handle
  copied : (from : Place) (text : List ℕ) → (lines : List WordInstr) → code_here x g line rest y ≡ lines
      → HasHandleAt x said g line rest y LEFT_HANDLE_AT lines (copy_code home from next) from text → Gives text
  copied from text lines code h =
      copy_settles x said g line rest y to there_block.there there_block.inside there_block.look from text
      (subst (λ l. HasHandleAt x said g line rest y LEFT_HANDLE_AT l (copy_code home from next) from text) (sym code) h)

  abbrev k : Option TypeDef → List WordInstr
  k d = copy_code home (entry_home LEFT_HANDLE_AT d (house g.call.site (of_value t))) next

  abbrev Named : Option TypeDef → List ℕ → Type 0
  Named d text = HasHandleAt x said g line rest y LEFT_HANDLE_AT
      (name_text here LEFT_HANDLE_AT d (base_at x.table ty) (house g.call.site (of_value t)) (k d)) (k d)
      (entry_home LEFT_HANDLE_AT d (house g.call.site (of_value t))) text

  a_bool : shape ≡ number (Some 2) → Named (Some D.Bool) (bool_text (is_true (number_of v)))
  a_bool is =
      let s = small x said g line rest y t ty v typed e next g.world 2 is in
      by s.0 s.1 s.2 (small_word x said g line rest y t ty v typed e next g.world 2 is)
    where
      high_is : OWN_FROM ≤ held
      high_is = (read x said g line rest y t ty v typed e next g.world (Some 2) is).high

      by : (m : ℕ) → number_of v ≡ pos m → m < 2 → g.call.vars held ≡ Some m → Named (Some D.Bool) (bool_text (is_true (number_of v)))
      by zero at less w = subst (λ z. Named (Some D.Bool) (bool_text (is_true z))) (sym at)
          (bool_handle x said g line rest y LEFT_HANDLE_AT (omega arith) (omega arith) (omega arith) 0 held (codes "false") (k (Some D.Bool)) (omega arith) refl
          said.names.false_text (omega arith, (omega arith, (omega arith, (omega arith, (omega arith, tt))))) high_is w)
      by (suc zero) at less w = subst (λ z. Named (Some D.Bool) (bool_text (is_true z))) (sym at)
          (bool_handle x said g line rest y LEFT_HANDLE_AT (omega arith) (omega arith) (omega arith) 1 held (codes "true") (k (Some D.Bool)) (omega arith) refl
          said.names.true_text (omega arith, (omega arith, (omega arith, (omega arith, tt)))) high_is w)
      by (suc (suc m)) at less w = absurd (omega (arith, less))

  a_member : (name : List ℕ) (place : At) (all : List (List ℕ)) → entry_at x.table ty ≡ Some (D.Enum name place all)
      → shape ≡ number (Some (length all)) → Named (Some (D.Enum name place all)) (name_in (slice_get all (unsigned_abs (number_of v))))
  a_member name place all entry is =
      let def : TypeDef = D.Enum name place all in
      let s = small x said g line rest y t ty v typed e next g.world (length all) is in
      let text = some_of all s.0 s.2 in
      let same : name_in (slice_get all (unsigned_abs (number_of v))) ≡ text.0
      = ap (λ z. name_in (slice_get all (unsigned_abs z))) s.1 ∙ ap name_in text.1 in
      subst (Named (Some def)) (sym same)
      (name_handle x said g line rest y LEFT_HANDLE_AT (omega arith) (omega arith) (omega arith)
      (data_end x.table x.blocks + 4 * names_before x.table (base_at x.table ty)) (names_at x.table (data_end x.table x.blocks)) s.0 held text.0
      (k (Some def)) (said.names.name ty def entry s.0 text.0 text.1) (texts.names ty def entry s.0 text.0 text.1)
      (read x said g line rest y t ty v typed e next g.world (Some (length all)) is).high
      (small_word x said g line rest y t ty v typed e next g.world (length all) is))

  none_named : (d : Option TypeDef) → name_text here LEFT_HANDLE_AT d (base_at x.table ty) (house g.call.site (of_value t)) (k d)
      ≡ no_text_code LEFT_HANDLE_AT (k d) → entry_home LEFT_HANDLE_AT d (house g.call.site (of_value t)) ≡ Static LEFT_HANDLE_AT → Named d []
  none_named d code where_is =
      subst (λ l. HasHandleAt x said g line rest y LEFT_HANDLE_AT l (k d) (entry_home LEFT_HANDLE_AT d (house g.call.site (of_value t))) []) (sym code)
      (subst (λ h. HasHandleAt x said g line rest y LEFT_HANDLE_AT (no_text_code LEFT_HANDLE_AT (k d)) (k d) h []) (sym where_is)
      (empty_handle x said g line rest y LEFT_HANDLE_AT (omega arith) (omega arith) (omega arith) (k d)))

  pub shown_by : (d : Option TypeDef) → entry_at x.table ty ≡ d → Looks x.table d shape
      → code_here x g line rest y ≡ shown_code here d home (Some ty) (house g.call.site (of_value t)) next → Gives (entry_text g.world d v)
  shown_by None entry is code = spelled is code
  shown_by (Some D.Int) entry is code = spelled is code
  shown_by (Some D.Bool) entry is code = copied (Static LEFT_HANDLE_AT) (bool_text (is_true (number_of v))) _ code (a_bool is)
  shown_by (Some D.Char) entry is code =
      copied (Static LEFT_HANDLE_AT) (low_byte (number_of v) ∷ []) _ code
      (char_here x said g line rest y LEFT_HANDLE_AT (omega arith) (omega arith) (omega arith) t ty v typed e (k (Some D.Char)) is)
  shown_by (Some D.Text) entry is code =
      copied (entry_home LEFT_HANDLE_AT (Some D.Text) (house g.call.site (of_value t))) (text_of g.world v) _ code
      (text_value_has x said texts g line rest y LEFT_HANDLE_AT (omega arith) (omega arith) (omega arith) (k (Some D.Text)) t (type_at (types_in x.table) ty) v
      typed is e whole)
  shown_by (Some (D.Enum name place all)) entry is code =
      copied (Static LEFT_HANDLE_AT) (name_in (slice_get all (unsigned_abs (number_of v)))) _ code (a_member name place all entry is)
  shown_by (Some (D.Seq i)) entry is code = copied (Static LEFT_HANDLE_AT) [] _ code (none_named (Some (D.Seq i)) refl refl)
  shown_by (Some (D.Param n)) entry is code = copied (Static LEFT_HANDLE_AT) [] _ code (none_named (Some (D.Param n)) refl refl)
  shown_by (Some (D.Array n i)) entry is code = copied (Static LEFT_HANDLE_AT) [] _ code (none_named (Some (D.Array n i)) refl refl)
  shown_by (Some (D.Tuple names is)) entry l code = copied (Static LEFT_HANDLE_AT) [] _ code (none_named (Some (D.Tuple names is)) refl refl)
  shown_by (Some (D.Object name place arguments all own_hooks parts)) entry is code =
      copied (Static LEFT_HANDLE_AT) [] _ code (none_named (Some (D.Object name place arguments all own_hooks parts)) refl refl)
  shown_by (Some (D.Distinct name place i)) entry is code = absurd is
  shown_by (Some (D.Ref name i)) entry is code = copied (Static LEFT_HANDLE_AT) [] _ code (none_named (Some (D.Ref name i)) refl refl)
  shown_by (Some (D.Exception name place parent)) entry is code =
      copied (Static LEFT_HANDLE_AT) [] _ code (none_named (Some (D.Exception name place parent)) refl refl)

-- ---- the row

module _ (x : Basis) (said : Writing x) (texts : TextsBuilt x) (g : Both) (rest : List BlockLine) (to : ℕ) (how : UseAt) where
  abbrev type : ℕ → Ty
  type n = type_at (types_in x.table) n

  show_one : (ty : Option ℕ) (a t : ℕ) (y : IsGood x (starts g (apply_line x g rest to O.Show how ty (Some a ∷ []) (F.Value t ∷ [])) rest)) (z : Operand)
      → Have g.call.temps (F.Value t ∷ []) (z ∷ []) → are_seen g.world (z ∷ []) ≡ true
      → Settles x (starts g (apply_line x g rest to O.Show how ty (Some a ∷ []) (F.Value t ∷ [])) rest) rest
      (gives (scene_of (high x.table x.blocks (starts g (apply_line x g rest to O.Show how ty (Some a ∷ []) (F.Value t ∷ [])) rest))) to
      (costs 1 (owned O.Show (facts_in x.table) (if_type (known x).types ty) (Some (type a) ∷ []) (z ∷ [])
      (does O.Show (facts_in x.table) (if_type (known x).types ty) (Some (type a) ∷ []) (z ∷ []))) >>= (λ v. give v)))
  show_one ty a t y z have seen =
      let line = apply_line x g rest to O.Show how ty (Some a ∷ []) (F.Value t ∷ []) in
      let r : FitsRow x g rest to O.Show how ty (Some a ∷ []) (F.Value t ∷ []) y = fits_row x g rest to O.Show how ty (Some a ∷ []) (F.Value t ∷ []) y in
      let p = and_parts (is_text (kind_if (facts_in x.table) (if_type (known x).types ty))) (is_shown (plain_of (facts_in x.table) (Some (type a)))) r.row in
      let t1 = typed_parts x g (F.Value t) (Some (type a)) [] [] r.typed in
      let s1 = and_parts (is_seen g.world (location_of z)) (are_seen g.world []) seen in
      let load_is = given_load g.world (g.call.temps.values t) z have.0 in
      let whole = (and_parts (is_there g.world (location_of z)) (is_whole g.world (load g.world (location_of z))) s1.0).1 in
      let k0 = some_kind (facts_in x.table) (if_type (known x).types ty) is_text refl p.0 in
      let typed = value_type_by (value_type x g line rest y to) (if_type (known x).types ty) k0.0 r.given k0.1 in
      let shape : shape_of (facts_in x.table) k0.0 ≡ block = text_looks (facts_in x.table) k0.0 k0.2 in
      let b : BitsTo x g line rest y (of_value to) block
      = subst (BitsTo x g line rest y (of_value to)) shape (bits_target x g line rest y to k0.0 refl refl typed (ap is_one_word shape)) in
      let text_is : entry_text g.world (entry_at x.table a) (value_of z) ≡ shown (facts_in x.table) g.world (Some (type a)) z
      = ap (entry_text g.world (entry_at x.table a)) (sym load_is) ∙ sym (said.texts g.world a (load g.world (location_of z))) in
      subst (λ text. Settles x (starts g line rest) rest (gives (scene_of (high x.table x.blocks (starts g line rest))) to
      (costs 1 (fresh_text text) >>= (λ v. give v)))) text_is
      (shown_by x said texts g line rest y to b t a (value_of z) t1.0 (given_value (g.call.temps.values t) z have.0)
      (subst (λ v. is_whole g.world v ≡ true) load_is whole) (entry_at x.table a) refl (said.looks a) refl)

  pub show_row : (ty : Option ℕ) (of : List (Option ℕ)) (from : List From) → OwnedRow x g rest to how O.Show ty of from
  show_row ty [] from y xs have seen = never (fits_row x g rest to O.Show how ty [] from y).row
  show_row ty (a ∷ b ∷ of) from y xs have seen = never (fits_row x g rest to O.Show how ty (a ∷ b ∷ of) from y).row
  show_row ty (None ∷ []) from y xs have seen =
      never (and_parts (is_text (kind_if (facts_in x.table) (if_type (known x).types ty))) _ (fits_row x g rest to O.Show how ty (None ∷ []) from y).row).1
  show_row ty (Some a ∷ []) [] y xs have seen = never (fits_row x g rest to O.Show how ty (Some a ∷ []) [] y).typed
  show_row ty (Some a ∷ []) (f ∷ h ∷ from) y xs have seen =
      never (typed_parts x g f (Some (type a)) [] (h ∷ from) (fits_row x g rest to O.Show how ty (Some a ∷ []) (f ∷ h ∷ from) y).typed).1
  show_row ty (Some a ∷ []) (F.Place t ∷ []) y xs have seen =
      let m = and_parts (may_stand (facts_in x.table) Looked (Some (type a))) (fit.are_placed (facts_in x.table) Looked 0 [] [])
      (fits_row x g rest to O.Show how ty (Some a ∷ []) (F.Place t ∷ []) y).placed in
      never (and_parts (gives_hooked (facts_in x.table) (Some (type a))) (is_lent Looked || is_given Looked) m.0).1
  show_row ty (Some a ∷ []) (F.Value t ∷ []) y [] have seen = absurd have
  show_row ty (Some a ∷ []) (F.Value t ∷ []) y (z ∷ w ∷ xs) have seen = absurd have.1
  show_row ty (Some a ∷ []) (F.Value t ∷ []) y (z ∷ []) have seen = show_one ty a t y z have seen
