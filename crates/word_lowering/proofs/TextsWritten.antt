-- Code that writes operands, by what the table says of their types: the values of temporaries, and texts that are lent.
use Rattle.std.proofs.Common.{◌≡◌, ◌⊎◌, inl, inr, ℕ, ◌+◌, List, ◌∷◌, length, Option, Some, None, true}
use Rattle.std.proofs.Common.{refl, sym, ap, ap₂, subst, ◌∙◌, arith}
use Rattle.std.proofs.lemmas.Bool.{and_parts}
use Rattle.nim_types.specs.declared.types.TypeDef.{TypeDef}
use Rattle.nim_types.specs.declared.types.TypeDef.TheVariants as D
use Rattle.nim_types.specs.Forms.{form_of, hooked}
use Rattle.nim_types.specs.Table.{type_at, types_in, facts_in}
use Rattle.nim_types.specs.Types.{Ty}
use Rattle.arc_base.specs.Event.{writes}
use Rattle.nim_meaning.specs.State.{is_seen, is_there, is_whole, load, text_of}
use Rattle.nim_meaning.specs.Texts.{shown}
use Rattle.nim_meaning.specs.Values.{At, Operand, Value, location_of, value_of}
use Rattle.flat_code.specs.declared.block.BlockLine.{BlockLine}
use Rattle.flat_code.specs.declared.line.From.{From}
use Rattle.flat_code.specs.declared.line.From.TheVariants as F
use Rattle.flat_code.specs.Fits.{is_location, is_value}
use Rattle.flat_code.specs.Lines.{fetch}
use Rattle.flat_code.specs.Scene.{Where, if_value, location_at}
use Rattle.flat_code.specs.Shapes.{Shape, block, number, shape_of}
use Rattle.word_code.specs.declared.word.WordInstr.{WordInstr}
use Rattle.word_code.specs.Words.{no_words}
use Rattle.word_code.proofs.ForCallers.{at, on}
use Rattle.word_lowering.specs.declared.handed.TheConstants.{LEFT_HANDLE_AT}
use Rattle.word_lowering.specs.declared.homes.TheConstants.{FIRST}
use Rattle.word_lowering.specs.declared.homes.Alias.TheVariants as alias
use Rattle.word_lowering.specs.declared.homes.Home.{Home as Place}
use Rattle.word_lowering.specs.declared.homes.Housed.{Housed}
use Rattle.word_lowering.specs.LineCode.{told_code, text_code, typed_code, written_code}
use Rattle.word_lowering.specs.Operands.{Around, literal_at, location, named, operand}
use Rattle.word_lowering.specs.OwnedCode as owned
use Rattle.word_lowering.specs.RoutineCode.{echo_code}
use Rattle.word_lowering.specs.Stored.{base_at, entry_at}
use Rattle.word_lowering.proofs.AllOperands.{given_load, given_value}
use Rattle.word_lowering.proofs.Gets.{same_temps}
use Rattle.word_lowering.proofs.HandleLines.{heap_kept}
use Rattle.word_lowering.proofs.Lines.{Basis, IsGood, all_procs, changed, lower, starts}
use Rattle.word_lowering.proofs.Moves.{same_more}
use Rattle.word_lowering.proofs.OperandTexts.{hooked_many, Has, IsAtPlace, IsHomePlace, IsLiteralPlace, IsPlacedSo, TextsBuilt, at_place, home_or_literal}
use Rattle.word_lowering.proofs.OperandTexts.{place_has, type_from}
use Rattle.word_lowering.proofs.OperandTexts.{value_has}
use Rattle.word_lowering.proofs.Related.{Both, body_of, within}
use Rattle.word_lowering.proofs.RowOperands.{HasHandleAt}
use Rattle.word_lowering.proofs.Scenes.{IsLiteral, IsNamed, house, is_fixed, looked, of_location, of_value}
use Rattle.word_lowering.proofs.ShapeFacts.{never}
use Rattle.word_lowering.proofs.Sites.{IsTextual, around, is_one_word}
use Rattle.word_lowering.proofs.TextLines.{text_tells}
use Rattle.word_lowering.proofs.TextReadRuns.{text_told}
use Rattle.word_lowering.proofs.Told.{Tells, good_told, none_tells}
use Rattle.word_lowering.proofs.TypeEntries.{entry_text}
use Rattle.word_lowering.proofs.TypeShapes.{Looks}
use Rattle.word_lowering.proofs.ValueFacts.{HasType, has_type, look_of, type_in}
use Rattle.word_lowering.proofs.WrittenLines.{Writing, a_bool, a_char, a_member, an_int}

module _ (x : Basis) (said : Writing x) (texts : TextsBuilt x) (g : Both) (line : BlockLine) (rest : List BlockLine) (y : IsGood x (starts g line rest))
    (k : List WordInstr) where
  abbrev here : Around
  here = around x.table x.blocks (body_of g)

  abbrev Writes : List WordInstr → List ℕ → Type 0
  Writes lines text = Tells x said.least g line rest y 1 lines k text

  -- ---- a text

  -- one that has its handle is written by the routine
  handle_tells : (from : ℕ) (home : Place) (text : List ℕ) (lines : List WordInstr) → HasHandleAt x said g line rest y from lines (echo_code home k) home text
      → Writes lines text
  handle_tells from home text lines h =
      let then_at : Both = changed g rest g.call.temps h.vars h.memory g.words g.awaits g.world in
      let good : IsGood x (starts then_at line rest)
      = good_told x said.least g line rest y (line ∷ rest) g.call.temps (same_temps x g line rest y) h.vars g.words g.awaits h.memory h.told h.same
      y.stands in
      let t = text_told (is_fixed g.ground) x.law x.live (all_procs x) (heap_kept x) (within x.table x.blocks g) refl g.ground.blocks g.world (sym y.input)
      h.memory good.heap good.memory.sized k h.vars g.words h.address text h.text_at home h.at_home in
      let first = h.few in
      let few = t.few in
      record {
        vars = t.vars;
        same = same_more g.call.vars h.vars t.vars h.same t.same;
        memory = h.memory;
        told = h.told;
        words = no_words;
        awaits = FIRST;
        count = h.count + t.count;
        few = omega (arith, first, few);
        steps = on (lower x) h.runs t.steps;
      }

  abbrev Told_by : Housed → List ℕ → Type 0
  Told_by h text = Writes (told_code (literal_at here) h.alias h.home k) text

  -- a literal is in memory from the beginning
  literal_tells : (t : ℕ) (v : Value) → IsNamed g.call.site (of_value t) → IsTextual x.table x.blocks (house g.call.site (of_value t))
      → g.call.temps.values t ≡ Some v → Told_by (house g.call.site (of_value t)) (text_of g.world v)
  literal_tells t v n s e =
      let l : IsLiteral (body_of g) s.behind s.bytes v = y.hold.0.texts t s.behind s.bytes v n s.is e in
      let code : text_code (literal_at here (length l.before) (length l.text)) (length l.text) k
      ≡ told_code (literal_at here) (house g.call.site (of_value t)).alias (house g.call.site (of_value t)).home k
      = ap₂ (λ n m. text_code (literal_at here n m) m k) l.at l.size
      ∙ sym (ap (λ a. told_code (literal_at here) a (house g.call.site (of_value t)).home k) s.is) in
      subst (λ c. Writes c (text_of g.world v)) code
      (subst (Writes (text_code (literal_at here (length l.before) (length l.text)) (length l.text) k)) (sym (ap (text_of g.world) l.is))
      (text_tells x said.least g line rest y 1 (literal_at here (length l.before) (length l.text)) l.text k
      (said.literals.literal (body_of g) y.linked.0 l.before l.text l.after l.whole l.among)))

  -- what has a home of its own has a handle there
  own_tells : (h : Housed) (text : List ℕ) → h.alias ≡ alias.Own
      → Has x said texts g line rest y LEFT_HANDLE_AT (omega arith) (omega arith) refl (echo_code h.home k) (Some D.Text) h text → Told_by h text
  own_tells h text own has =
      subst (λ a. Writes (told_code (literal_at here) a h.home k) text) (sym own)
      (handle_tells LEFT_HANDLE_AT h.home text (echo_code h.home k)
      (subst (λ a. HasHandleAt x said g line rest y LEFT_HANDLE_AT (owned.literal_text here LEFT_HANDLE_AT a (echo_code h.home k)) (echo_code h.home k)
      (owned.literal_home LEFT_HANDLE_AT a h.home) text) own has))

  value_tells : (t ty : ℕ) (v : Value) → type_in x is_value (body_of g) t ≡ Some (type_at (types_in x.table) ty)
      → shape_of (facts_in x.table) (type_at (types_in x.table) ty) ≡ block → g.call.temps.values t ≡ Some v → is_whole g.world v ≡ true
      → Told_by (house g.call.site (of_value t)) (text_of g.world v)
  value_tells t ty v typed is e whole = by (y.linked.0.values t has.named)
    where
      has : HasType x g.call.site (of_value t) (type_at (types_in x.table) ty)
      has = has_type x g.call.site (of_value t) (type_at (types_in x.table) ty) y.linked.0 typed

      by : ((house g.call.site (of_value t)).alias ≡ alias.Own) ⊎ IsTextual x.table x.blocks (house g.call.site (of_value t))
          → Told_by (house g.call.site (of_value t)) (text_of g.world v)
      by (inl own) =
          own_tells (house g.call.site (of_value t)) (text_of g.world v) own
          (value_has x said texts g line rest y LEFT_HANDLE_AT (omega arith) (omega arith) refl (echo_code (house g.call.site (of_value t)).home k) t ty v typed
          is e whole)
      by (inr s) = literal_tells t v has.named s e

  place_tells : (t : ℕ) (there : Where) → IsNamed g.call.site (of_location t) → looked x.table g.call.site (of_location t) ≡ block
      → g.call.temps.places t ≡ Some there → is_seen g.world (location_at g.call.temps there) ≡ true
      → Told_by (location here t) (text_of g.world (load g.world (location_at g.call.temps there)))
  place_tells t there n look e seen = by (home_or_literal x said texts g line rest y t there n e)
    where
      by : IsHomePlace x said texts g line rest y t ⊎ IsLiteralPlace x said texts g line rest y t there
          → Told_by (location here t) (text_of g.world (load g.world (location_at g.call.temps there)))
      by (inl p) =
          own_tells (location here t) (text_of g.world (load g.world (location_at g.call.temps there))) p.own
          (place_has x said texts g line rest y LEFT_HANDLE_AT (omega arith) (omega arith) refl (echo_code (location here t).home k) t there n look e seen)
      by (inr p) =
          subst (λ b. Told_by (named here b (house g.call.site (of_location t))) (text_of g.world (load g.world (location_at g.call.temps there)))) (sym p.is)
          (subst (λ z. Told_by (house g.call.site (of_value p.temp)) (text_of g.world (load g.world (location_at g.call.temps z)))) (sym p.has.is)
          (subst (λ o. Told_by (house g.call.site (of_value p.temp)) (text_of g.world (if_value o))) (sym p.has.has)
          (literal_tells p.temp p.has.value p.named_value p.textual p.has.has)))

  -- ---- each, by its type

  module _ (ty : ℕ) (z : Operand) (seen : is_seen g.world (location_of z) ≡ true) where
    abbrev of : Ty
    of = type_at (types_in x.table) ty

    abbrev shape : Shape
    shape = shape_of (facts_in x.table) of

    abbrev At_entry : Housed → Option TypeDef → Value → Type 0
    At_entry h d v = Writes (written_code here d (base_at x.table ty) h k) (entry_text g.world d v)

    module _ (t : ℕ) (v : Value) (typed : type_in x is_value (body_of g) t ≡ Some of) (e : g.call.temps.values t ≡ Some v)
        (whole : is_whole g.world v ≡ true) where
      value_by : (d : Option TypeDef) → entry_at x.table ty ≡ d → Looks x.table d shape → At_entry (house g.call.site (of_value t)) d v
      value_by None entry is = an_int x said g line rest y t ty v typed e k g.world is
      value_by (Some D.Int) entry is = an_int x said g line rest y t ty v typed e k g.world is
      value_by (Some D.Bool) entry is = a_bool x said g line rest y t ty v typed e k g.world is
      value_by (Some D.Char) entry is = a_char x said g line rest y t ty v typed e k g.world is
      value_by (Some D.Text) entry is = value_tells t ty v typed is e whole
      value_by (Some (D.Enum name place all)) entry is =
          a_member x said g line rest y t ty v typed e k g.world (D.Enum name place all) all refl entry is
      value_by (Some (D.Seq i)) entry is = none_tells x said.least g line rest y 1 k
      value_by (Some (D.Param n)) entry is = none_tells x said.least g line rest y 1 k
      value_by (Some (D.Array n i)) entry is = none_tells x said.least g line rest y 1 k
      value_by (Some (D.Tuple names is)) entry l = none_tells x said.least g line rest y 1 k
      value_by (Some (D.Object name place arguments all own_hooks parts)) entry is = none_tells x said.least g line rest y 1 k
      value_by (Some (D.Distinct name place i)) entry is = absurd is
      value_by (Some (D.Ref name i)) entry is = none_tells x said.least g line rest y 1 k
      value_by (Some (D.Exception name place parent)) entry is = none_tells x said.least g line rest y 1 k

    -- what is lent is no number
    module _ (t : ℕ) (there : Where) (typed : type_in x is_location (body_of g) t ≡ Some of) (e : g.call.temps.places t ≡ Some there)
        (there_seen : is_seen g.world (location_at g.call.temps there) ≡ true) (placed : hooked (form_of (facts_in x.table) of) ≡ true) where
      has : HasType x g.call.site (of_location t) of
      has = has_type x g.call.site (of_location t) of y.linked.0 typed

      look : looked x.table g.call.site (of_location t) ≡ shape
      look = look_of x g.call.site (of_location t) of has

      no_number : {A : Type 0} (values : Option ℕ) → shape ≡ number values → A
      no_number values is =
          let many = (hooked_many x (body_of g) y.linked.0 is_location t has.named (ap (λ u. hooked (form_of (facts_in x.table) u)) has.typed ∙ placed)).1 in
          never (sym many ∙ ap is_one_word (look ∙ is))

      place_by : (d : Option TypeDef) → Looks x.table d shape → At_entry (location here t) d (load g.world (location_at g.call.temps there))
      place_by None is = no_number None is
      place_by (Some D.Int) is = no_number None is
      place_by (Some D.Bool) is = no_number (Some 2) is
      place_by (Some D.Char) is = no_number (Some 256) is
      place_by (Some D.Text) is = place_tells t there has.named (look ∙ is) e there_seen
      place_by (Some (D.Enum name place all)) is = no_number (Some (length all)) is
      place_by (Some (D.Seq i)) is = none_tells x said.least g line rest y 1 k
      place_by (Some (D.Param n)) is = none_tells x said.least g line rest y 1 k
      place_by (Some (D.Array n i)) is = none_tells x said.least g line rest y 1 k
      place_by (Some (D.Tuple names is)) l = none_tells x said.least g line rest y 1 k
      place_by (Some (D.Object name place arguments all own_hooks parts)) is = none_tells x said.least g line rest y 1 k
      place_by (Some (D.Distinct name place i)) is = absurd is
      place_by (Some (D.Ref name i)) is = none_tells x said.least g line rest y 1 k
      place_by (Some (D.Exception name place parent)) is = none_tells x said.least g line rest y 1 k

    -- what a text of this type is, by the table
    shown_is : entry_text g.world (entry_at x.table ty) (load g.world (location_of z)) ≡ shown (facts_in x.table) g.world (Some of) z
    shown_is = sym (said.texts g.world ty (load g.world (location_of z)))

    pub operand_tells : (f : From) → fetch g.call.temps f ≡ Some z
        → type_from x g f ≡ Some of
        → IsPlacedSo f (hooked (form_of (facts_in x.table) of))
        → Writes (typed_code here (Some ty) (operand here f) k) (shown (facts_in x.table) g.world (Some of) z)
    operand_tells (F.Value t) got typed placed =
        let load_is = given_load g.world (g.call.temps.values t) z got in
        let whole = (and_parts (is_there g.world (location_of z)) (is_whole g.world (load g.world (location_of z))) seen).1 in
        subst (Writes (typed_code here (Some ty) (house g.call.site (of_value t)) k)) shown_is
        (subst (At_entry (house g.call.site (of_value t)) (entry_at x.table ty)) (sym load_is)
        (value_by t (value_of z) typed (given_value (g.call.temps.values t) z got) (subst (λ v. is_whole g.world v ≡ true) load_is whole)
        (entry_at x.table ty) refl (said.looks ty)))
    operand_tells (F.Place t) got typed placed =
        let p : IsAtPlace (g.call.temps.places t) (λ there. At (location_at g.call.temps there)) z
        = at_place (g.call.temps.places t) (λ there. At (location_at g.call.temps there)) z got in
        subst (Writes (typed_code here (Some ty) (location here t) k)) shown_is
        (subst (λ u. At_entry (location here t) (entry_at x.table ty) (load g.world (location_of u))) p.is
        (place_by t p.there typed p.has (subst (λ u. is_seen g.world (location_of u) ≡ true) (sym p.is) seen) placed (entry_at x.table ty) (said.looks ty)))
