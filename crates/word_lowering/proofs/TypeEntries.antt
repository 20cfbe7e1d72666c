-- What a table says of the text of a type's values, distinct types looked through.
use Rattle.std.proofs.Common.{◌≡◌, ℕ, zero, suc, ◌<◌, ◌≤◌, ◌⊎◌, inl, inr, List, [], ◌∷◌, length, Option, Some}
use Rattle.std.proofs.Common.{None, Bool, true, false, refl, sym, ap, ◌∙◌, arith}
use Rattle.std.specs.Prelude.{unsigned_abs, slice_get}
use Rattle.std.specs.Fmt.{signed_decimal}
use Rattle.std.proofs.lemmas.Bool.{cases_lt}
use Rattle.std.proofs.lemmas.Option.{slice_get_past}
use Rattle.nim_types.specs.declared.types.TypeDef.{TypeDef}
use Rattle.nim_types.specs.declared.types.TypeDef.TheVariants as D
use Rattle.nim_types.specs.Types.{Ty, Field, Fact, Facts, fact_of, members_in, base_in}
use Rattle.nim_types.specs.Table.{type_at, types_in, facts_in, fields_with, fields_fact, said_of, meant, and_said, facts_over, IsTable}
use Rattle.nim_types.specs.Entries.{meant_at, said_at, one_if}
use Rattle.nim_types.proofs.ForCallers.{by_entry, said_by}
use Rattle.nim_program.specs.Ints.{is_true, low_byte}
use Rattle.nim_meaning.specs.Values.{Value, number_of}
use Rattle.nim_meaning.specs.Texts.{value_text, text_at}
use Rattle.nim_program.specs.Texts.{bool_text, name_in}
use Rattle.nim_program.specs.Kinds.{below_distinct, base_or as type_or}
use Rattle.word_lowering.specs.Stored.{base_or, base_within, base_at, entry_at}
use Rattle.word_lowering.proofs.Options.{none_some, some_same}
use Rattle.word_lowering.proofs.TypeShapes.{base_below, Stays, stays_not, Looked, a_distinct, another, look}
use Rattle.nim_meaning.specs.State.{World, text_of}

-- the text of a value of a type with this entry
abbrev pub entry_text : World → Option TypeDef → Value → List ℕ
entry_text world None v = signed_decimal (number_of v)
entry_text world (Some D.Int) v = signed_decimal (number_of v)
entry_text world (Some D.Bool) v = bool_text (is_true (number_of v))
entry_text world (Some D.Char) v = low_byte (number_of v) ∷ []
entry_text world (Some D.Text) v = text_of world v
entry_text world (Some (D.Enum name at all)) v = name_in (slice_get all (unsigned_abs (number_of v)))
entry_text world _ v = []

-- ---- how many distinct types stand before an entry

abbrev distinct_def : TypeDef → Bool
distinct_def (D.Distinct name at i) = true
distinct_def d = false

abbrev before : List TypeDef → ℕ → ℕ
before [] i = 0
before (d ∷ ds) zero = 0
before (d ∷ ds) (suc i) = one_if (distinct_def d) (before ds i)

one_if_more : (b : Bool) (m n : ℕ) → m ≤ n → one_if b m ≤ one_if b n
one_if_more true m n h = omega (arith, h)
one_if_more false m n h = h

before_more : (ds : List TypeDef) (i j : ℕ) → i ≤ j → before ds i ≤ before ds j
before_more [] i j h = omega arith
before_more (d ∷ ds) zero j h = omega arith
before_more (d ∷ ds) (suc i) zero h = absurd (omega (arith, h))
before_more (d ∷ ds) (suc i) (suc j) h =
    one_if_more (distinct_def d) (before ds i) (before ds j) (before_more ds i j (omega (arith, h)))

one_if_next : (b : Bool) (m n : ℕ) → m ≡ suc n → one_if b m ≡ suc (one_if b n)
one_if_next true m n e = ap suc e
one_if_next false m n e = e

before_next : (ds : List TypeDef) (i : ℕ) (d : TypeDef) → slice_get ds i ≡ Some d → distinct_def d ≡ true → before ds (suc i) ≡ suc (before ds i)
before_next [] i d h t = absurd (none_some d h)
before_next (e ∷ []) zero d h t = ap (λ c. one_if (distinct_def c) 0) (some_same e d h) ∙ ap (λ b. one_if b 0) t
before_next (e ∷ f ∷ ds) zero d h t = ap (λ c. one_if (distinct_def c) 0) (some_same e d h) ∙ ap (λ b. one_if b 0) t
before_next (e ∷ ds) (suc i) d h t = one_if_next (distinct_def e) (before ds (suc i)) (before ds i) (before_next ds i d h t)

said_longer : (ty : Ty) (o : Option Fact) (rest : Facts) → length rest ≤ length (and_said ty o rest)
said_longer ty None rest = omega arith
said_longer ty (Some fact) rest = omega arith

before_all : (ts : List Ty) (ds : List TypeDef) (i : ℕ) → before ds i ≤ length (facts_over ts ds)
before_all ts [] i = omega arith
before_all ts (d ∷ ds) zero = omega arith
before_all ts (d ∷ ds) (suc i) = by d (before_all ts ds i)
  where
    by : (d : TypeDef) → before ds i ≤ length (facts_over ts ds) → one_if (distinct_def d) (before ds i) ≤ length (facts_over ts (d ∷ ds))
    by (D.Distinct name at j) h = omega (arith, h)
    by d h = let l = said_longer (meant ts d) (said_of ts d) (facts_over ts ds) in omega (arith, h, l)

-- what is no distinct type has no base
no_base : (ts : List Ty) (o : Option TypeDef) → Stays o → base_in (said_at ts o) ≡ None
no_base ts None s = refl
no_base ts (Some D.Int) s = refl
no_base ts (Some D.Bool) s = refl
no_base ts (Some D.Char) s = refl
no_base ts (Some D.Text) s = refl
no_base ts (Some (D.Seq j)) s = refl
no_base ts (Some (D.Param n)) s = refl
no_base ts (Some (D.Enum name at all)) s = refl
no_base ts (Some (D.Array n j)) s = refl
no_base ts (Some (D.Tuple names is)) s = refl
no_base ts (Some (D.Object name at is all own parts)) s = each (fields_with ts all parts)
  where
    each : (o : Option (List Field)) → base_in (fields_fact o own) ≡ None
    each None = refl
    each (Some fields) = refl
no_base ts (Some (D.Distinct name at j)) s = stays_not name at j s
no_base ts (Some (D.Ref name j)) s = refl
no_base ts (Some (D.Exception name at parent)) s = refl

module _ (ds : List TypeDef) (table : IsTable ds) where
  abbrev ts : List Ty
  ts = types_in ds

  abbrev facts : Facts
  facts = facts_in ds

  base_said : (i : ℕ) (o : Option TypeDef) → slice_get ds i ≡ o → base_in (fact_of facts (type_at ts i)) ≡ base_in (said_at ts o)
  base_said i o e = ap (λ t. base_in (fact_of facts t)) (by_entry ds table i o e) ∙ ap base_in (said_by ds table i o e)

  -- no distinct type
  pub base_stays : (n i : ℕ) (o : Option TypeDef) → slice_get ds i ≡ o → Stays o → base_within n ds i ≡ i
  base_stays zero i o e s = refl
  base_stays (suc n) i o e s = ap (base_or (base_within n ds) i) e ∙ s (base_within n ds) i

  type_stays : (n i : ℕ) (o : Option TypeDef) → slice_get ds i ≡ o → base_in (said_at ts o) ≡ None → below_distinct n facts (type_at ts i)
      ≡ type_at ts i
  type_stays zero i o e h = refl
  type_stays (suc n) i o e h = ap (type_or (below_distinct n facts) (type_at ts i)) (base_said i o e ∙ h)

  -- both look through alike
  base_same : (most n k i : ℕ) → i < most → before ds (suc i) ≤ n → suc i ≤ k
      → below_distinct n facts (type_at ts i) ≡ type_at ts (base_within k ds i)
  base_same zero n k i h said far = absurd (omega (arith, h))
  base_same (suc most) n k i h said far = by (slice_get ds i) refl (look (slice_get ds i)) (λ n k j. base_same most n k j) n k said far
    where
      by : (o : Option TypeDef) → slice_get ds i ≡ o → Looked o
          → ((n k j : ℕ) → j < most → before ds (suc j) ≤ n → suc j ≤ k → below_distinct n facts (type_at ts j) ≡ type_at ts (base_within k ds j))
          → (n k : ℕ) → before ds (suc i) ≤ n → suc i ≤ k → below_distinct n facts (type_at ts i) ≡ type_at ts (base_within k ds i)
      by o e (another p stays) lower n k said far =
          type_stays n i o e (no_base ts o stays) ∙ ap (type_at ts) (sym (base_stays k i o e stays))
      by o e (a_distinct name at j) lower n zero said far = absurd (omega (arith, far))
      by o e (a_distinct name at j) lower zero (suc k) said far =
          let next = before_next ds i (D.Distinct name at j) e refl in absurd (omega (arith, next, said))
      by o e (a_distinct name at j) lower (suc n) (suc k) said far =
          let below = base_below ds table i name at j e in
          let next = before_next ds i (D.Distinct name at j) e refl in
          let more = before_more ds (suc j) i (omega (arith, below)) in
          ap (type_or (below_distinct n facts) (type_at ts i)) (base_said i (Some (D.Distinct name at j)) e)
          ∙ lower n k j (omega (arith, below, h)) (omega (arith, next, more, said)) (omega (arith, below, far))
          ∙ ap (type_at ts) (sym (ap (base_or (base_within k ds) i) e))

  base_is : (i : ℕ) → below_distinct (length facts) facts (type_at ts i) ≡ type_at ts (base_at ds i)
  base_is i = by (cases_lt i (length ds))
    where
      by : (i < length ds) ⊎ (length ds ≤ i) → below_distinct (length facts) facts (type_at ts i) ≡ type_at ts (base_at ds i)
      by (inl h) = base_same (suc i) (length facts) (length ds) i (omega arith) (before_all ts ds (suc i)) (omega (arith, h))
      by (inr h) =
          let none = slice_get_past ds i h in
          type_stays (length facts) i None none refl ∙ ap (type_at ts) (sym (base_stays (length ds) i None none (λ go j. refl)))

  text_by : (world : World) (o : Option TypeDef) (v : Value) → fact_of facts (meant_at ts o) ≡ said_at ts o
      → value_text facts world (meant_at ts o) v ≡ entry_text world o v
  text_by world None v h = refl
  text_by world (Some D.Int) v h = refl
  text_by world (Some D.Bool) v h = refl
  text_by world (Some D.Char) v h = refl
  text_by world (Some D.Text) v h = refl
  text_by world (Some (D.Seq i)) v h = refl
  text_by world (Some (D.Param n)) v h = refl
  text_by world (Some (D.Enum name at all)) v h = ap (λ f. name_in (slice_get (members_in f) (unsigned_abs (number_of v)))) h
  text_by world (Some (D.Array n i)) v h = refl
  text_by world (Some (D.Tuple names is)) v h = refl
  text_by world (Some (D.Object name at is all own_hooks parts)) v h = refl
  text_by world (Some (D.Distinct name at i)) v h = refl
  text_by world (Some (D.Ref name i)) v h = refl
  text_by world (Some (D.Exception name at parent)) v h = refl

  pub type_text : (world : World) (ty : ℕ) (v : Value) → text_at facts world (Some (type_at ts ty)) v ≡ entry_text world (entry_at ds ty) v
  type_text world ty v =
      ap (λ t. value_text facts world t v) (base_is ty ∙ by_entry ds table (base_at ds ty) (entry_at ds ty) refl)
      ∙ text_by world (entry_at ds ty) v (said_by ds table (base_at ds ty) (entry_at ds ty) refl)
