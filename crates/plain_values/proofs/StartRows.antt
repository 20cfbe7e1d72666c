-- What places start at, by the entries of a table.
use Rattle.std.proofs.Common.{◌≡◌, ℕ, zero, suc, ◌+◌, Bool, true, false, List, [], ◌∷◌, ◌++◌, length, take, refl, sym, ap}
use Rattle.std.proofs.Common.{ap₂, ◌∙◌, arith, Option, Some}
use Rattle.std.proofs.lemmas.Option.{none-some, same_Some}
use Rattle.std.specs.Prelude.{slice_get, nat_eq, Result, Ok, Err, IfOk}
use Rattle.arc_base.specs.declared.bytes.Memory.{Memory}
use Rattle.nim_types.specs.Types.{Ty, Fact, Facts}
use Rattle.nim_types.specs.Forms.{Forms, form_in, forms_in, form_by, form_within, object_form, types_of}
use Rattle.nim_types.specs.declared.types.TypeDef.{TypeDef}
use Rattle.nim_types.specs.declared.types.TypeDef.TheVariants as D
use Rattle.nim_types.specs.declared.types.FieldName.{FieldName}
use Rattle.nim_types.specs.Table.{types_in, fields_with, fields_fact, facts_in, IsTable}
use Rattle.nim_types.specs.Entries.{meant_at}
use Rattle.nim_types.proofs.ForCallers.{by_entry, said_by, fields_by, fields_there, fields_none, fields_types}
use Rattle.nim_program.specs.declared.expr.Literal.{Literal as RustLiteral}
use Rattle.nim_program.specs.Program.{Literal, PartsOf, NoLiteral, ALiteral}
use Rattle.nim_program.specs.View.{literal_of, literals_of}
use Rattle.nim_program.specs.Defaults.{times, blank_literal, blank_literals}
use Rattle.plain_values.specs.Entries.{starts_at, starts_all, and_last}

pub if_is : (r : Result RustLiteral Memory) (v w : Literal) → IfOk r (λ x. literal_of x ≡ v) → v ≡ w → IfOk r (λ x. literal_of x ≡ w)
if_is (Ok x) v w h e = h ∙ e
if_is (Err m) v w h e = tt

-- ---- lists

-- values, and one more behind them
pub literals_last : (xs : List RustLiteral) (w : RustLiteral) → literals_of (xs ++ w ∷ []) ≡ and_last (literals_of xs) (literal_of w)
literals_last [] w = refl
literals_last (x ∷ xs) w = ap (ALiteral (literal_of x)) (literals_last xs w)

one_last : (n : ℕ) (l : Literal) → and_last (times n l) l ≡ times (suc n) l
one_last zero l = refl
one_last (suc n) l = ap (ALiteral l) (one_last n l)

pub one_of_many : (n : ℕ) (all xs : List RustLiteral) (w : RustLiteral) (l : Literal) → all ≡ xs ++ w ∷ [] → literals_of xs ≡ times n l
    → literal_of w ≡ l → literals_of all ≡ times (n + 1) l
one_of_many n all xs w l e h g =
    let f : suc n ≡ n + 1 = omega arith in
    ap literals_of e ∙ literals_last xs w ∙ ap₂ and_last h g ∙ one_last n l ∙ ap (λ m. times m l) f

starts_take : (n : ℕ) (ds : List TypeDef) (is : List ℕ) (k i : ℕ) → slice_get is k ≡ Some i
    → starts_all n ds (take (suc k) is) ≡ and_last (starts_all n ds (take k is)) (starts_at n ds i)
starts_take n ds [] k i h = absurd (none-some i h)
starts_take n ds (j ∷ is) zero i h = ap (λ x. ALiteral (starts_at n ds x) NoLiteral) (same_Some j i h)
starts_take n ds (j ∷ is) (suc k) i h = ap (ALiteral (starts_at n ds j)) (starts_take n ds is k i h)

pub one_start : (n : ℕ) (ds : List TypeDef) (is : List ℕ) (k i : ℕ) (all xs : List RustLiteral) (w : RustLiteral) → slice_get is k ≡ Some i
    → all ≡ xs ++ w ∷ [] → literals_of xs ≡ starts_all n ds (take k is) → literal_of w ≡ starts_at n ds i
    → literals_of all ≡ starts_all n ds (take (k + 1) is)
one_start n ds is k i all xs w f e h g =
    let m : suc k ≡ k + 1 = omega arith in
    ap literals_of e ∙ literals_last xs w ∙ ap₂ and_last h g ∙ sym (starts_take n ds is k i f) ∙ ap (λ j. starts_all n ds (take j is)) m

-- ---- entries

module _ (ds : List TypeDef) (table : IsTable ds) where
  abbrev ts : List Ty
  ts = types_in ds

  abbrev facts : Facts
  facts = facts_in ds

  abbrev within : ℕ → Ty → Literal
  within n ty = blank_literal (form_in (form_within n facts) ty)

  pub start_entry : (n i : ℕ) (o : Option TypeDef) → slice_get ds i ≡ o → starts_at n ds i ≡ within n (meant_at ts o)
  start_entry n i o h = ap (within n) (by_entry ds table i o h)

  abbrev by_fact : ℕ → Option Fact → Literal
  by_fact n fact = blank_literal (form_by (form_within n facts) fact)

  start_object_form : (own_hooks : Bool) (fs : Forms) → blank_literal (object_form own_hooks fs) ≡ PartsOf (blank_literals fs)
  start_object_form true fs = refl
  start_object_form false fs = refl

  pub start_object : (n : ℕ) (name : _) (at : _) (is : List ℕ) (all : List FieldName) (own_hooks : Bool) (parts : List ℕ) (i : ℕ)
      → slice_get ds i ≡ Some (D.Object name at is all own_hooks parts) → nat_eq (length all) (length parts) ≡ true
      → starts_at (suc n) ds i ≡ PartsOf (starts_all n ds parts)
  start_object n name at is all own_hooks parts i h e =
      let fields = fields_there ts all parts (fields_by ts all parts ∙ e) in
      let o = Some (D.Object name at is all own_hooks parts) in
      start_entry (suc n) i o h ∙ ap (by_fact n) (said_by ds table i o h ∙ ap (λ o. fields_fact o own_hooks) fields.1)
      ∙ start_object_form own_hooks (forms_in (form_within n facts) (types_of fields.0))
      ∙ ap (λ us. PartsOf (blank_literals (forms_in (form_within n facts) us))) (fields_types ts all parts fields.0 fields.1)

  pub start_unknown : (n : ℕ) (name : _) (at : _) (is : List ℕ) (all : List FieldName) (own_hooks : Bool) (parts : List ℕ) (i : ℕ)
      → slice_get ds i ≡ Some (D.Object name at is all own_hooks parts) → nat_eq (length all) (length parts) ≡ false
      → starts_at n ds i ≡ PartsOf NoLiteral
  start_unknown zero name at is all own_hooks parts i h e = start_entry zero i (Some (D.Object name at is all own_hooks parts)) h
  start_unknown (suc n) name at is all own_hooks parts i h e =
      let o = Some (D.Object name at is all own_hooks parts) in
      start_entry (suc n) i o h ∙ ap (by_fact n) (said_by ds table i o h
      ∙ ap (λ o. fields_fact o own_hooks) (fields_none (fields_with ts all parts) (fields_by ts all parts ∙ e)))

  pub start_zero : (n i : ℕ) (name : _) (at : _) (is : List ℕ) (all : List FieldName) (own_hooks : Bool) (parts : List ℕ) → n ≡ 0
      → slice_get ds i ≡ Some (D.Object name at is all own_hooks parts) → starts_at n ds i ≡ PartsOf NoLiteral
  start_zero n i name at is all own_hooks parts e h =
      ap (λ n. starts_at n ds i) e ∙ start_entry 0 i (Some (D.Object name at is all own_hooks parts)) h

  pub start_zero_distinct : (n i : ℕ) (name : _) (at : _) (j : ℕ) → n ≡ 0 → slice_get ds i ≡ Some (D.Distinct name at j)
      → starts_at n ds i ≡ PartsOf NoLiteral
  start_zero_distinct n i name at j e h = ap (λ n. starts_at n ds i) e ∙ start_entry 0 i (Some (D.Distinct name at j)) h

  pub start_distinct : (n : ℕ) (name : _) (at : _) (j i : ℕ) → slice_get ds i ≡ Some (D.Distinct name at j)
      → starts_at (suc n) ds i ≡ starts_at n ds j
  start_distinct n name at j i h =
      start_entry (suc n) i (Some (D.Distinct name at j)) h ∙ ap (by_fact n) (said_by ds table i (Some (D.Distinct name at j)) h)
