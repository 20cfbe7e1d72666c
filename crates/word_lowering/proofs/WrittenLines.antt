-- Code that writes the value of a temporary that is a number, by what the table says of its type.
use Rattle.std.proofs.Common.{◌≡◌, ℕ, zero, suc, ◌+◌, ◌*◌, ◌<◌, ◌≤◌, pos, negsuc, ℤ, List, [], ◌∷◌, length, Option, Some, None, true, false}
use Rattle.std.proofs.Common.{refl, sym, ap, subst, ◌∙◌, arith}
use Rattle.std.specs.Prelude.{unsigned_abs, codes, slice_get, int_le, int_lt}
use Rattle.std.proofs.lemmas.Int.{ints}
use Rattle.std.proofs.lemmas.Bool.{and_parts}
use Rattle.nim_types.specs.declared.types.TypeDef.{TypeDef}
use Rattle.nim_types.specs.declared.types.TypeDef.TheVariants as D
use Rattle.nim_types.specs.Table.{type_at, types_in, facts_in}
use Rattle.nim_types.specs.Types.{Ty}
use Rattle.nim_program.specs.declared.operation.Comparison.{Comparison}
use Rattle.nim_program.specs.Kinds.{is_compared, is_joined, kind_of, plain_kind}
use Rattle.nim_program.specs.Ints.{is_true, inside, low_byte, fits as is_int_number}
use Rattle.nim_meaning.specs.Texts.{text_at}
use Rattle.nim_program.specs.Texts.{bool_text, name_in}
use Rattle.nim_meaning.specs.Values.{Number, Value, number_of}
use Rattle.flat_code.specs.declared.block.BlockLine.{BlockLine}
use Rattle.flat_code.specs.Fits.{is_value}
use Rattle.flat_code.specs.Shapes.{Shape, has_shape, number, shape_of}
use Rattle.word_code.specs.declared.word.WordInstr.{WordInstr}
use Rattle.word_lowering.specs.declared.texts.TheConstants.{FIXED_BYTES}
use Rattle.word_lowering.specs.LineCode.{bool_code, char_code, name_code, value, variable_of, written_code}
use Rattle.word_lowering.specs.Operations.{word}
use Rattle.word_lowering.specs.Stored.{base_at, entry_at}
use Rattle.word_lowering.specs.Texts.{members_of, names_at, names_before}
use Rattle.word_lowering.proofs.Arithmetic.{pos_word, small_byte}
use Rattle.word_lowering.proofs.BlankShapes.{of_handles}
use Rattle.word_lowering.proofs.ControlLines.{number_read}
use Rattle.word_lowering.proofs.JoinedTypes.{Joined}
use Rattle.word_lowering.proofs.LineFits.{number_value}
use Rattle.word_lowering.proofs.Lines.{Basis, IsGood, starts}
use Rattle.word_lowering.proofs.Related.{Both, body_of}
use Rattle.word_lowering.proofs.Scenes.{house, of_value}
use Rattle.word_lowering.proofs.Sites.{around, data_end, is_one_word}
use Rattle.word_lowering.proofs.TextLines.{LiteralsThere, TextAt}
use Rattle.word_lowering.proofs.Told.{Tells}
use Rattle.word_lowering.proofs.TypeEntries.{entry_text}
use Rattle.word_lowering.proofs.TypeShapes.{Looks}
use Rattle.word_lowering.proofs.ValueFacts.{Operand, has_type, look_of, type_in}
use Rattle.word_lowering.proofs.WriteLines.{NameAt, bool_tells, char_tells, name_tells, number_tells}
use Rattle.nim_meaning.specs.State.{World}

-- the texts of bools, and the names of enums, stand in the data
pub record NamesThere (x : Basis) : Type 0 where
  pub false_text : TextAt x 8 (codes "false")
  pub true_text : TextAt x 16 (codes "true")
  pub name : (ty : ℕ) (def : TypeDef) → entry_at x.table ty ≡ Some def → (a : ℕ) (text : List ℕ) → slice_get (members_of def) a ≡ Some text
      → NameAt x (data_end x.table x.blocks + 4 * names_before x.table (base_at x.table ty)) (names_at x.table (data_end x.table x.blocks)) a text

-- all that lines rest on that write
pub record Writing (x : Basis) : Type 0 where
  pub least : FIXED_BYTES ≤ data_end x.table x.blocks
  pub names : NamesThere x
  pub literals : LiteralsThere x
  -- what a type looks like, and the texts of its values, by its entry
  pub looks : (ty : ℕ) → Looks x.table (entry_at x.table ty) (shape_of (facts_in x.table) (type_at (types_in x.table) ty))
  pub texts : (world : World) (ty : ℕ) (v : Value)
      → text_at (facts_in x.table) world (Some (type_at (types_in x.table) ty)) v ≡ entry_text world (entry_at x.table ty) v
  -- what is joined to texts is a text or a character
  pub joined : (ty : ℕ) → is_joined (kind_of (facts_in x.table) (type_at (types_in x.table) ty)) ≡ true
      → Joined (entry_at x.table ty) (type_at (types_in x.table) ty)
  -- what is compared and no word is a text, where no ref is built
  pub compared : (ty : ℕ) (comparison : Comparison) → is_compared comparison (plain_kind (facts_in x.table) (type_at (types_in x.table) ty)) ≡ true
      → is_one_word (shape_of (facts_in x.table) (type_at (types_in x.table) ty)) ≡ false
      → of_handles (shape_of (facts_in x.table) (type_at (types_in x.table) ty)) ≡ true → entry_at x.table ty ≡ Some D.Text

-- ---- ordinals of so many values

inside_small : (z : ℤ) (n : ℕ) → inside z n ≡ true → (m : ℕ) × (z ≡ pos m) × (m < n)
inside_small (pos m) n h =
    let p = and_parts (int_le (pos 0) (pos m)) (int_lt (pos m) (pos n)) h in
    let less : int_lt (pos m) (pos n) ≡ true = p.1 in
    (m, refl, omega (arith, ints, less))
inside_small (negsuc m) n h =
    let p = and_parts (int_le (pos 0) (negsuc m)) (int_lt (negsuc m) (pos n)) h in
    let least : int_le (pos 0) (negsuc m) ≡ true = p.0 in
    absurd (omega (arith, ints, least))

value_small : (v : Value) (n : ℕ) → has_shape v (number (Some n)) ≡ true → (m : ℕ) × (number_of v ≡ pos m) × (m < n)
value_small v n h =
    let z = number_value v (Some n) h in
    let s : has_shape (Number z.0) (number (Some n)) ≡ true = subst (λ u. has_shape u (number (Some n)) ≡ true) z.1 h in
    subst (λ u. (m : ℕ) × (number_of u ≡ pos m) × (m < n)) (sym z.1) (inside_small z.0 n (and_parts (is_int_number z.0) (inside z.0 n) s).1)

pub some_of : {A : Type 0} (xs : List A) (n : ℕ) → n < length xs → (x : A) × (slice_get xs n ≡ Some x)
some_of [] n h = absurd (omega (arith, h))
some_of (x ∷ xs) zero h = (x, refl)
some_of (x ∷ xs) (suc n) h = some_of xs n (omega (arith, h))

module _ (x : Basis) (said : Writing x) (g : Both) (line : BlockLine) (rest : List BlockLine) (y : IsGood x (starts g line rest)) (t ty : ℕ) (v : Value)
    (typed : type_in x is_value (body_of g) t ≡ Some (type_at (types_in x.table) ty)) (e : g.call.temps.values t ≡ Some v) (k : List WordInstr)
    (world : World) where
  abbrev pub value_ty : Ty
  value_ty = type_at (types_in x.table) ty

  abbrev pub shape : Shape
  shape = shape_of (facts_in x.table) value_ty

  abbrev held : ℕ
  held = variable_of (house g.call.site (of_value t))

  abbrev pub Writes : List WordInstr → List ℕ → Type 0
  Writes lines text = Tells x said.least g line rest y 1 lines k text

  -- ---- a number

  pub read : (values : Option ℕ) → shape ≡ number values → Operand x g.call t v
  read values is = number_read x g line rest y t v value_ty values typed is e

  module _ (n : ℕ) (is : shape ≡ number (Some n)) where
    pub small : (m : ℕ) × (number_of v ≡ pos m) × (m < n)
    small =
        let o = read (Some n) is in
        value_small v n (subst (λ s. has_shape v s ≡ true) (look_of x g.call.site (of_value t) value_ty
        (has_type x g.call.site (of_value t) value_ty y.linked.0 typed) ∙ is) o.shaped)

    pub small_word : g.call.vars held ≡ Some small.0
    small_word =
        let o = read (Some n) is in
        let same = small.1 in
        o.word_is ∙ (ap (λ z. Some (word z)) same ∙ ap Some (pos_word small.0 (subst (λ z. is_int_number z ≡ true) same o.fits)))

  pub an_int : shape ≡ number None
      → Writes (written_code (around x.table x.blocks (body_of g)) (Some D.Int) (base_at x.table ty) (house g.call.site (of_value t)) k)
      (entry_text world (Some D.Int) v)
  an_int is = let o = read None is in number_tells x said.least g line rest y (number_of v) held k o.fits o.word_is

  pub a_bool : shape ≡ number (Some 2) → Writes (bool_code held k) (bool_text (is_true (number_of v)))
  a_bool is = by (small 2 is).0 (small 2 is).1 (small 2 is).2 (small_word 2 is)
    where
      by : (m : ℕ) → number_of v ≡ pos m → m < 2 → g.call.vars held ≡ Some m → Writes (bool_code held k) (bool_text (is_true (number_of v)))
      by zero at less w = subst (λ z. Writes (bool_code held k) (bool_text (is_true z))) (sym at)
          (bool_tells x said.least g line rest y 0 held (codes "false") k (omega arith) refl said.names.false_text (read (Some 2) is).high w)
      by (suc zero) at less w = subst (λ z. Writes (bool_code held k) (bool_text (is_true z))) (sym at)
          (bool_tells x said.least g line rest y 1 held (codes "true") k (omega arith) refl said.names.true_text (read (Some 2) is).high w)
      by (suc (suc m)) at less w = absurd (omega (arith, less))

  pub a_char : shape ≡ number (Some 256) → Writes (char_code held k) (low_byte (number_of v) ∷ [])
  a_char is =
      let s = small 256 is in
      subst (λ b. Writes (char_code held k) (b ∷ [])) (sym (ap low_byte s.1 ∙ small_byte s.0 s.2))
      (char_tells x said.least g line rest y s.0 held k s.2 (read (Some 256) is).high (small_word 256 is))

  abbrev ends : ℕ
  ends = data_end x.table x.blocks + 4 * names_before x.table (base_at x.table ty)

  pub a_member : (def : TypeDef) (all : List (List ℕ)) → members_of def ≡ all → entry_at x.table ty ≡ Some def → shape ≡ number (Some (length all))
      → Writes (name_code ends (names_at x.table (data_end x.table x.blocks)) held k) (name_in (slice_get all (unsigned_abs (number_of v))))
  a_member def all are at is =
      let s = small (length all) is in
      let text = some_of all s.0 s.2 in
      let same : name_in (slice_get all (unsigned_abs (number_of v))) ≡ text.0 = ap (λ z. name_in (slice_get all (unsigned_abs z))) s.1 ∙ ap name_in text.1 in
      subst (Writes (name_code ends (names_at x.table (data_end x.table x.blocks)) held k)) (sym same)
      (name_tells x said.least g line rest y ends (names_at x.table (data_end x.table x.blocks)) s.0 held text.0 k
      (said.names.name ty def at s.0 text.0 (ap (λ l. slice_get l s.0) are ∙ text.1)) (read (Some (length all)) is).high (small_word (length all) is))
