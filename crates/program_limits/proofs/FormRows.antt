-- The forms of the types of a table, by their entries.
use Rattle.std.proofs.Common.{◌≡◌, ℕ, zero, suc, Bool, true, false, List, length, ap, ◌∙◌, Option, Some}
use Rattle.std.specs.Prelude.{slice_get, nat_eq}
use Rattle.nim_types.specs.Types.{Ty, Facts}
use Rattle.nim_types.specs.Forms.{Form, no_forms, wrapped, form_in, forms_in, form_by, form_within, object_form}
use Rattle.nim_types.specs.declared.types.TypeDef.{TypeDef}
use Rattle.nim_types.specs.declared.types.TypeDef.TheVariants as D
use Rattle.nim_types.specs.declared.types.FieldName.{FieldName}
use Rattle.nim_types.specs.Table.{types_in, fields_with, fields_fact, facts_in, IsTable}
use Rattle.nim_types.specs.Entries.{meant_at}
use Rattle.nim_types.proofs.ForCallers.{by_entry, said_by, fields_by, fields_there, fields_none, fields_types}
use Rattle.program_limits.specs.Summaries.{form_at, forms_at}

module _ (ds : List TypeDef) (table : IsTable ds) where
  abbrev ts : List Ty
  ts = types_in ds

  abbrev facts : Facts
  facts = facts_in ds

  -- ---- forms

  abbrev known : ℕ → Ty → Form
  known n = form_within n facts

  pub form_entry : (n i : ℕ) (o : Option TypeDef) → slice_get ds i ≡ o → form_at n ds i ≡ form_in (known n) (meant_at ts o)
  form_entry n i o h = ap (form_in (known n)) (by_entry ds table i o h)

  pub form_object : (n : ℕ) (name : _) (at : _) (is : List ℕ) (all : List FieldName) (own_hooks : Bool) (parts : List ℕ) (i : ℕ) →
      slice_get ds i ≡ Some (D.Object name at is all own_hooks parts) → nat_eq (length all) (length parts) ≡ true →
      form_at (suc n) ds i ≡ object_form own_hooks (forms_at n ds parts)
  form_object n name at is all own_hooks parts i h e =
      let fields = fields_there ts all parts (fields_by ts all parts ∙ e) in
      form_entry (suc n) i (Some (D.Object name at is all own_hooks parts)) h ∙
      ap (form_by (known n)) (said_by ds table i (Some (D.Object name at is all own_hooks parts)) h ∙ ap (λ o. fields_fact o own_hooks) fields.1) ∙
      ap (λ us. object_form own_hooks (forms_in (known n) us)) (fields_types ts all parts fields.0 fields.1)

  pub form_unknown : (n : ℕ) (name : _) (at : _) (is : List ℕ) (all : List FieldName) (own_hooks : Bool) (parts : List ℕ) (i : ℕ) →
      slice_get ds i ≡ Some (D.Object name at is all own_hooks parts) → nat_eq (length all) (length parts) ≡ false →
      form_at n ds i ≡ Rattle.nim_types.specs.Forms.parts no_forms
  form_unknown zero name at is all own_hooks parts i h e = form_entry zero i (Some (D.Object name at is all own_hooks parts)) h
  form_unknown (suc n) name at is all own_hooks parts i h e =
      form_entry (suc n) i (Some (D.Object name at is all own_hooks parts)) h ∙
      ap (form_by (known n)) (said_by ds table i (Some (D.Object name at is all own_hooks parts)) h ∙
      ap (λ o. fields_fact o own_hooks) (fields_none (fields_with ts all parts) (fields_by ts all parts ∙ e)))

  pub form_zero : (n i : ℕ) (name : _) (at : _) (is : List ℕ) (all : List FieldName) (own_hooks : Bool) (parts : List ℕ) → n ≡ 0 →
      slice_get ds i ≡ Some (D.Object name at is all own_hooks parts) → form_at n ds i ≡ Rattle.nim_types.specs.Forms.parts no_forms
  form_zero n i name at is all own_hooks parts e h =
      ap (λ n. form_at n ds i) e ∙ form_entry 0 i (Some (D.Object name at is all own_hooks parts)) h

  pub form_zero_distinct : (n i : ℕ) (name : _) (at : _) (j : ℕ) → n ≡ 0 → slice_get ds i ≡ Some (D.Distinct name at j) →
      form_at n ds i ≡ Rattle.nim_types.specs.Forms.parts no_forms
  form_zero_distinct n i name at j e h = ap (λ n. form_at n ds i) e ∙ form_entry 0 i (Some (D.Distinct name at j)) h

  pub form_distinct : (n : ℕ) (name : _) (at : _) (j i : ℕ) → slice_get ds i ≡ Some (D.Distinct name at j) → form_at (suc n) ds i ≡
      wrapped (form_at n ds j)
  form_distinct n name at j i h =
      form_entry (suc n) i (Some (D.Distinct name at j)) h ∙ ap (form_by (known n)) (said_by ds table i (Some (D.Distinct name at j)) h)
