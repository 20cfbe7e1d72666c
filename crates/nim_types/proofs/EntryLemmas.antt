-- The types of a table, by their entries.
use Rattle.std.proofs.Common.{◌≡◌, ℕ, zero, suc, ◌+◌, ◌<◌, ◌≤◌, Bool, true, false, List, [], ◌∷◌, length, refl, sym, ap, subst, ◌∙◌, arith}
use Rattle.std.proofs.Common.{Option, Some, None, ⊎_elim, drop}
use Rattle.std.proofs.lemmas.Option.{none-some, same_Some}
use Rattle.std.proofs.lemmas.Bool.{both_ways, cases_Bool, eqb-true, eq-eqb, ne_eqb}
use Rattle.std.specs.Prelude.{slice_get, slice_index_or, nat_eq}
use Rattle.nim_types.specs.Types.{Ty, int, Tys, types, Field, Facts, fact_of}
use Rattle.nim_types.specs.Forms.{types_of}
use Rattle.nim_types.specs.declared.types.TypeDef.{TypeDef}
use Rattle.nim_types.specs.declared.types.TypeDef.TheVariants as D
use Rattle.nim_types.specs.declared.types.FieldName.{FieldName}
use Rattle.nim_types.specs.Table.{type_at, types_at, meant, types_in, and_field, fields_with, fields_fact, said_of, and_said, facts_over, facts_in, AllBelow}
use Rattle.nim_types.specs.Table.{IsTable}
use Rattle.nim_types.specs.Entries.{meant_at, said_at, says, one_if, says_count}
use Rattle.nim_types.proofs.Numbering.{count, at_entry, said_at as said_number}

-- ---- entries

pub type_beyond : (ts : List Ty) (i : ℕ) → length ts ≤ i → type_at ts i ≡ int
type_beyond [] i le = refl
type_beyond (t ∷ ts) zero le = absurd (omega (arith, le))
type_beyond (t ∷ ts) (suc i) le = type_beyond ts i (omega (arith, le))

pub none_beyond : {A : Type 0} (xs : List A) (i : ℕ) → slice_get xs i ≡ None → length xs ≤ i
none_beyond [] i h = omega arith
none_beyond (x ∷ xs) zero h = absurd (none-some x (sym h))
none_beyond (x ∷ xs) (suc i) h = omega (arith, none_beyond xs i h)

-- nothing is said of an int
pub no_int : (ts : List Ty) (ds : List TypeDef) → fact_of (facts_over ts ds) int ≡ None
no_int ts [] = refl
no_int ts (D.Int ∷ ds) = no_int ts ds
no_int ts (D.Bool ∷ ds) = no_int ts ds
no_int ts (D.Char ∷ ds) = no_int ts ds
no_int ts (D.Text ∷ ds) = no_int ts ds
no_int ts (D.Seq i ∷ ds) = no_int ts ds
no_int ts (D.Param n ∷ ds) = no_int ts ds
no_int ts (D.Enum name at all ∷ ds) = no_int ts ds
no_int ts (D.Array n i ∷ ds) = no_int ts ds
no_int ts (D.Tuple names is ∷ ds) = no_int ts ds
no_int ts (D.Object name at is all own_hooks parts ∷ ds) = each (fields_with ts all parts) (no_int ts ds)
  where
    each : (o : Option (List Field)) → fact_of (facts_over ts ds) int ≡ None →
        fact_of (and_said (meant ts (D.Object name at is all own_hooks parts)) (fields_fact o own_hooks) (facts_over ts ds)) int ≡ None
    each None h = h
    each (Some fields) h = h
no_int ts (D.Distinct name at i ∷ ds) = no_int ts ds
no_int ts (D.Ref name i ∷ ds) = no_int ts ds
no_int ts (D.Exception name at parent ∷ ds) = no_int ts ds

-- ---- lists

pub says_drop : (ds : List TypeDef) (i : ℕ) (d : TypeDef) → slice_get ds i ≡ Some d →
    says_count (drop i ds) ≡ one_if (says d) (says_count (drop (suc i) ds))
says_drop [] i d h = absurd (none-some d h)
says_drop (e ∷ ds) zero d h = ap (λ x. one_if (says x) (says_count ds)) (same_Some e d h)
says_drop (e ∷ ds) (suc i) d h = says_drop ds i d h

pub says_next : (ds : List TypeDef) (i : ℕ) (d : TypeDef) → slice_get ds i ≡ Some d →
    says_count (drop i ds) ≡ one_if (says d) (says_count (drop (i + 1) ds))
says_next ds i d h = let e : suc i ≡ i + 1 = omega arith in says_drop ds i d h ∙ ap (λ n. one_if (says d) (says_count (drop n ds))) e

pub says_beyond : (ds : List TypeDef) (i : ℕ) → length ds ≤ i → says_count (drop i ds) ≡ 0
says_beyond [] zero le = refl
says_beyond [] (suc i) le = refl
says_beyond (d ∷ ds) zero le = absurd (omega (arith, le))
says_beyond (d ∷ ds) (suc i) le = says_beyond ds i (omega (arith, le))

pub index_get : (is : List ℕ) (k : ℕ) → k < length is → slice_get is k ≡ Some (slice_index_or is k 0)
index_get [] k lt = absurd (omega (arith, lt))
index_get (i ∷ is) zero lt = refl
index_get (i ∷ is) (suc k) lt = index_get is k (omega (arith, lt))

pub one_below : (n : ℕ) (is : List ℕ) (k i : ℕ) → AllBelow n is → slice_get is k ≡ Some i → i < n
one_below n [] k i b h = absurd (none-some i h)
one_below n (j ∷ is) zero i b h = subst (λ (x : ℕ). x < n) (same_Some j i h) b.0
one_below n (j ∷ is) (suc k) i b h = one_below n is k i b.1 h

-- ---- fields

abbrev pub given : Option (List Field) → Bool
given None = false
given (Some fields) = true

given_more : (f : FieldName) (t : Ty) (o : Option (List Field)) → given (and_field f t o) ≡ given o
given_more f t None = refl
given_more f t (Some fields) = refl

both_more : (a b : ℕ) → nat_eq a b ≡ nat_eq (suc a) (suc b)
both_more a b = ⊎_elim
    (λ t. t ∙ sym (eq-eqb (suc a) (suc b) (ap suc (eqb-true a b t))))
    (λ f. f ∙ sym (ne_eqb (suc a) (suc b) (λ e. let g : a ≡ b = omega (arith, e) in absurd (both_ways (nat_eq a b) f (eq-eqb a b g)))))
    (cases_Bool (nat_eq a b))

pub fields_by : (ts : List Ty) (fs : List FieldName) (is : List ℕ) → given (fields_with ts fs is) ≡ nat_eq (length fs) (length is)
fields_by ts [] [] = refl
fields_by ts [] (i ∷ is) = sym (ne_eqb 0 (suc (length is)) (λ e. absurd (omega (arith, e))))
fields_by ts (f ∷ fs) [] = sym (ne_eqb (suc (length fs)) 0 (λ e. absurd (omega (arith, e))))
fields_by ts (f ∷ fs) (i ∷ is) = given_more f (type_at ts i) (fields_with ts fs is) ∙ fields_by ts fs is ∙ both_more (length fs) (length is)

pub there : (o : Option (List Field)) → given o ≡ true → (fields : List Field) × (o ≡ Some fields)
there None h = absurd (both_ways false refl h)
there (Some fields) h = (fields, refl)

pub fields_there : (ts : List Ty) (fs : List FieldName) (is : List ℕ) → given (fields_with ts fs is) ≡ true →
    (fields : List Field) × (fields_with ts fs is ≡ Some fields)
fields_there ts fs is h = there (fields_with ts fs is) h

pub fields_none : (o : Option (List Field)) → given o ≡ false → o ≡ None
fields_none None h = refl
fields_none (Some fields) h = absurd (both_ways true h refl)

one_more : (f : FieldName) (t : Ty) (us : Tys) (o : Option (List Field)) → ((fields : List Field) → o ≡ Some fields → types_of fields ≡ us) →
    (fields : List Field) → and_field f t o ≡ Some fields → types_of fields ≡ types t us
one_more f t us None h fields e = absurd (none-some fields e)
one_more f t us (Some rest) h fields e = ap types_of (sym (same_Some _ fields e)) ∙ ap (types t) (h rest refl)

pub fields_types : (ts : List Ty) (fs : List FieldName) (is : List ℕ) (fields : List Field) → fields_with ts fs is ≡ Some fields →
    types_of fields ≡ types_at ts is
fields_types ts [] [] fields e = ap types_of (sym (same_Some _ fields e))
fields_types ts [] (i ∷ is) fields e = absurd (none-some fields e)
fields_types ts (f ∷ fs) [] fields e = absurd (none-some fields e)
fields_types ts (f ∷ fs) (i ∷ is) fields e =
    one_more f (type_at ts i) (types_at ts is) (fields_with ts fs is) (fields_types ts fs is) fields e

module _ (ds : List TypeDef) (table : IsTable ds) where
  abbrev ts : List Ty
  ts = types_in ds

  abbrev facts : Facts
  facts = facts_in ds

  pub by_entry : (i : ℕ) (o : Option TypeDef) → slice_get ds i ≡ o → type_at ts i ≡ meant_at ts o
  by_entry i None h = type_beyond ts i (omega (arith, none_beyond ds i h, count ds))
  by_entry i (Some d) h = at_entry ds i d table h

  pub said_by : (i : ℕ) (o : Option TypeDef) → slice_get ds i ≡ o → fact_of facts (meant_at ts o) ≡ said_at ts o
  said_by i None h = no_int ts ds
  said_by i (Some d) h = said_number ds i d table h

  pub entry_type : (i : ℕ) → type_at ts i ≡ meant_at ts (slice_get ds i)
  entry_type i = by_entry i (slice_get ds i) refl

  pub entry_said : (i : ℕ) → fact_of facts (meant_at ts (slice_get ds i)) ≡ said_at ts (slice_get ds i)
  entry_said i = said_by i (slice_get ds i) refl

  -- ---- how much is said

  count_step : (d : TypeDef) (rest : Facts) → length (and_said (meant ts d) (said_of ts d) rest) ≡ one_if (says d) (length rest)
  count_step D.Int rest = refl
  count_step D.Bool rest = refl
  count_step D.Char rest = refl
  count_step D.Text rest = refl
  count_step (D.Seq i) rest = refl
  count_step (D.Param n) rest = refl
  count_step (D.Enum name at all) rest = refl
  count_step (D.Array n i) rest = refl
  count_step (D.Tuple names is) rest = refl
  count_step (D.Object name at is all own_hooks parts) rest = each (fields_with ts all parts) (fields_by ts all parts)
    where
      each : (o : Option (List Field)) → given o ≡ nat_eq (length all) (length parts) →
          length (and_said (meant ts (D.Object name at is all own_hooks parts)) (fields_fact o own_hooks) rest) ≡
          one_if (nat_eq (length all) (length parts)) (length rest)
      each None h = ap (λ b. one_if b (length rest)) h
      each (Some fields) h = ap (λ b. one_if b (length rest)) h
  count_step (D.Distinct name at i) rest = refl
  count_step (D.Ref name i) rest = refl
  count_step (D.Exception name at parent) rest = refl

  count_over : (es : List TypeDef) → length (facts_over ts es) ≡ says_count es
  count_over [] = refl
  count_over (d ∷ es) = count_step d (facts_over ts es) ∙ ap (one_if (says d)) (count_over es)

  pub count_is : says_count ds ≡ length facts
  count_is = sym (count_over ds)
