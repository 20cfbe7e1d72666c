-- How many values types have, and the texts of these, by the entries of a table.
use Rattle.std.proofs.Common.{◌≡◌, ℕ, zero, suc, ℤ, List, ◌++◌, length, refl, sym, ap, ◌∙◌, Option, Some, None}
use Rattle.std.specs.Prelude.{slice_get, unsigned_abs, Result, Ok, Err, OnOk}
use Rattle.arc_base.specs.declared.bytes.Memory.{Memory}
use Rattle.nim_types.specs.Types.{Ty, Field, Facts, fact_of, members_in, base_in}
use Rattle.nim_types.specs.declared.types.TypeDef.{TypeDef}
use Rattle.nim_types.specs.declared.types.TypeDef.TheVariants as D
use Rattle.nim_types.specs.Table.{type_at, types_in, fields_with, fields_fact, facts_in, IsTable}
use Rattle.nim_types.specs.Entries.{meant_at, said_at}
use Rattle.nim_types.proofs.ForCallers.{entry_type, entry_said}
use Rattle.nim_program.specs.Texts.{plain_text, name_in}
use Rattle.nim_program.specs.Kinds.{base_or, below_distinct}
use Rattle.plain_values.specs.Values.{limit_of}
use Rattle.plain_values.specs.Entries.{limit_at, text_for, base_at}

pub on_ok : (r : Result (Unit {0}) Memory) (new old v w : List ℕ) → OnOk r (new ≡ old ++ v) → v ≡ w → OnOk r (new ≡ old ++ w)
on_ok (Ok x) new old v w h e = h ∙ ap (λ l. old ++ l) e
on_ok (Err m) new old v w h e = tt

module _ (ds : List TypeDef) (table : IsTable ds) where
  abbrev ts : List Ty
  ts = types_in ds

  abbrev facts : Facts
  facts = facts_in ds

  limit_by : (o : Option TypeDef) → fact_of facts (meant_at ts o) ≡ said_at ts o → limit_at o ≡ limit_of facts (meant_at ts o)
  limit_by None h = refl
  limit_by (Some D.Int) h = refl
  limit_by (Some D.Bool) h = refl
  limit_by (Some D.Char) h = refl
  limit_by (Some D.Text) h = refl
  limit_by (Some (D.Seq i)) h = refl
  limit_by (Some (D.Param n)) h = refl
  limit_by (Some (D.Enum name at all)) h = ap (λ f. Some (length (members_in f))) (sym h)
  limit_by (Some (D.Array n i)) h = refl
  limit_by (Some (D.Tuple names is)) h = refl
  limit_by (Some (D.Object name at is all own_hooks parts)) h = refl
  limit_by (Some (D.Distinct name at i)) h = refl
  limit_by (Some (D.Ref name i)) h = refl
  limit_by (Some (D.Exception name at parent)) h = refl

  pub limit_is : (i : ℕ) → limit_at (slice_get ds i) ≡ limit_of facts (type_at ts i)
  limit_is i = limit_by (slice_get ds i) (entry_said ds table i) ∙ ap (limit_of facts) (sym (entry_type ds table i))

  text_by : (o : Option TypeDef) (z : ℤ) → fact_of facts (meant_at ts o) ≡ said_at ts o → text_for o z ≡ plain_text facts (meant_at ts o) z
  text_by None z h = refl
  text_by (Some D.Int) z h = refl
  text_by (Some D.Bool) z h = refl
  text_by (Some D.Char) z h = refl
  text_by (Some D.Text) z h = refl
  text_by (Some (D.Seq i)) z h = refl
  text_by (Some (D.Param n)) z h = refl
  text_by (Some (D.Enum name at all)) z h = ap (λ f. name_in (slice_get (members_in f) (unsigned_abs z))) (sym h)
  text_by (Some (D.Array n i)) z h = refl
  text_by (Some (D.Tuple names is)) z h = refl
  text_by (Some (D.Object name at is all own_hooks parts)) z h = refl
  text_by (Some (D.Distinct name at i)) z h = refl
  text_by (Some (D.Ref name i)) z h = refl
  text_by (Some (D.Exception name at parent)) z h = refl

  pub text_is : (i : ℕ) (z : ℤ) → text_for (slice_get ds i) z ≡ plain_text facts (type_at ts i) z
  text_is i z = text_by (slice_get ds i) z (entry_said ds table i) ∙ ap (λ t. plain_text facts t z) (sym (entry_type ds table i))

  -- ---- distinct types

  -- the type of a number, where there is one
  abbrev type_for : Option ℕ → Option Ty
  type_for None = None
  type_for (Some i) = Some (type_at ts i)

  base_by : (o : Option TypeDef) → type_for (base_at o) ≡ base_in (said_at ts o)
  base_by None = refl
  base_by (Some D.Int) = refl
  base_by (Some D.Bool) = refl
  base_by (Some D.Char) = refl
  base_by (Some D.Text) = refl
  base_by (Some (D.Seq i)) = refl
  base_by (Some (D.Param n)) = refl
  base_by (Some (D.Enum name at all)) = refl
  base_by (Some (D.Array n i)) = refl
  base_by (Some (D.Tuple names is)) = refl
  base_by (Some (D.Object name at is all own_hooks parts)) = each (fields_with ts all parts)
    where
      each : (o : Option (List Field)) → None ≡ base_in (fields_fact o own_hooks)
      each None = refl
      each (Some fields) = refl
  base_by (Some (D.Distinct name at i)) = refl
  base_by (Some (D.Ref name i)) = refl
  base_by (Some (D.Exception name at parent)) = refl

  base_is : (i : ℕ) → base_in (fact_of facts (type_at ts i)) ≡ type_for (base_at (slice_get ds i))
  base_is i =
      ap (λ t. base_in (fact_of facts t)) (entry_type ds table i) ∙ ap base_in (entry_said ds table i) ∙ sym (base_by (slice_get ds i))

  pub below_none : (n i : ℕ) → base_at (slice_get ds i) ≡ None → below_distinct n facts (type_at ts i) ≡ type_at ts i
  below_none zero i h = refl
  below_none (suc n) i h = ap (base_or (below_distinct n facts) (type_at ts i)) (base_is i ∙ ap type_for h)

  pub below_some : (n i j : ℕ) → base_at (slice_get ds i) ≡ Some j
      → below_distinct (suc n) facts (type_at ts i) ≡ below_distinct n facts (type_at ts j)
  below_some n i j h = ap (base_or (below_distinct n facts) (type_at ts i)) (base_is i ∙ ap type_for h)
