-- What counts of hooks, by the entries of a table and by the forms of its types.
use Rattle.std.proofs.Common.{◌≡◌, ℕ, zero, suc, ◌+◌, Bool, true, false, List, [], ◌∷◌, length, Some, refl, sym, ap, ◌∙◌, subst, arith}
use Rattle.std.specs.Prelude.{if◌then◌else◌, ◌&&◌, nat_le, slice_get}
use Rattle.nim_types.specs.declared.types.TypeDef.{TypeDef}
use Rattle.nim_types.specs.declared.types.TypeDef.TheVariants as D
use Rattle.nim_types.specs.Types.{Ty}
use Rattle.nim_types.specs.Table.{IsTable, types_in, facts_in, type_at}
use Rattle.nim_types.specs.Forms.{Form, parts, Forms, hooked, levels, form_of, object_form}
use Rattle.nim_types.proofs.ForCallers.{count}
use Rattle.nim_program.specs.Sizes.{HaveForms}
use Rattle.hook_lifting.specs.declared.procedures.TheConstants.{MOST_LEVELS}
use Rattle.hook_lifting.specs.Lifted.{is_lifted}
use Rattle.hook_lifting.proofs.ForCallers.{forms_at, entry_form, form_at}
use Rattle.core_compiler.specs.Limits.{forms_count, parts_count, form_parts, hook_parts}

-- ---- by entries

abbrev pub entry_count : TypeDef → ℕ
entry_count (D.Tuple names ps) = length ps
entry_count (D.Object name at of fields own ps) = length ps
entry_count d = 0

abbrev pub entry_parts : List TypeDef → (ty : ℕ) → TypeDef → ℕ
entry_parts table ty (D.Seq of) = 1
entry_parts table ty d = if is_lifted table ty then suc (entry_count d) else 0

-- by each entry from one on
abbrev pub parts_from : List TypeDef → List TypeDef → (ty : ℕ) → ℕ
parts_from table [] ty = 0
parts_from table (d ∷ ds) ty = entry_parts table ty d + parts_from table ds (suc ty)

-- ---- the same by forms

module _ (table : List TypeDef) (is_table : IsTable table) (formed : HaveForms table) where
  abbrev form : ℕ → Form
  form ty = form_of (facts_in table) (type_at (types_in table) ty)

  abbrev if_lifted : Form → ℕ → ℕ
  if_lifted f n = if hooked f && nat_le (levels f) MOST_LEVELS then suc n else 0

  as_many : (ps : List ℕ) → length ps ≡ forms_count (forms_at table ps)
  as_many [] = refl
  as_many (p ∷ ps) = ap suc (as_many ps)

  moved : (f g : Form) (n : ℕ) → f ≡ g → if_lifted g n ≡ form_parts g → if_lifted f n ≡ form_parts f
  moved f g n e h = subst (λ f. if_lifted f n ≡ form_parts f) (sym e) h

  of_object : (own_hooks : Bool) (ps : List ℕ)
      → if_lifted (object_form own_hooks (forms_at table ps)) (length ps) ≡ form_parts (object_form own_hooks (forms_at table ps))
  of_object true ps = ap (if_lifted (object_form true (forms_at table ps))) (as_many ps)
  of_object false ps = ap (if_lifted (object_form false (forms_at table ps))) (as_many ps)

  entry_is : (ty : ℕ) (d : TypeDef) → slice_get table ty ≡ Some d → entry_parts table ty d ≡ form_parts (form ty)
  entry_is ty d at = by d (form_at table is_table formed ty d at)
    where
      by : (d : TypeDef) → form ty ≡ entry_form table d → entry_parts table ty d ≡ form_parts (form ty)
      by D.Int e = moved (form ty) _ 0 e refl
      by D.Bool e = moved (form ty) _ 0 e refl
      by D.Char e = moved (form ty) _ 0 e refl
      by D.Text e = moved (form ty) _ 0 e refl
      by (D.Seq of) e = ap form_parts (sym e)
      by (D.Param n) e = moved (form ty) _ 0 e refl
      by (D.Enum name place all) e = moved (form ty) _ 0 e refl
      by (D.Array n of) e = moved (form ty) _ 0 e refl
      by (D.Tuple names ps) e = moved (form ty) _ (length ps) e (ap (if_lifted (parts (forms_at table ps))) (as_many ps))
      by (D.Object name place of fields own_hooks ps) e = moved (form ty) _ (length ps) e (of_object own_hooks ps)
      by (D.Distinct name place base) e = moved (form ty) _ 0 e refl
      by (D.Ref name base) e = moved (form ty) _ 0 e refl
      by (D.Exception name place parent) e = moved (form ty) _ 0 e refl

  -- the entries and the types from one on
  from_one : (ds : List TypeDef) (ts : List Ty) (ty : ℕ) → length ts ≡ length ds
      → ((i : ℕ) (d : TypeDef) → slice_get ds i ≡ Some d → slice_get table (ty + i) ≡ Some d)
      → ((i : ℕ) → type_at ts i ≡ type_at (types_in table) (ty + i)) → parts_from table ds ty ≡ hook_parts (facts_in table) ts
  from_one [] [] ty long entries types = refl
  from_one [] (t ∷ ts) ty long entries types = omega (arith, long)
  from_one (d ∷ ds) [] ty long entries types = omega (arith, long)
  from_one (d ∷ ds) (t ∷ ts) ty long entries types =
      let at : slice_get table ty ≡ Some d = subst (λ n. slice_get table n ≡ Some d) (none_more ty) (entries 0 d refl) in
      let is : t ≡ type_at (types_in table) ty = types 0 ∙ ap (type_at (types_in table)) (none_more ty) in
      let first : entry_parts table ty d ≡ form_parts (form_of (facts_in table) t)
      = entry_is ty d at ∙ ap (λ t. form_parts (form_of (facts_in table) t)) (sym is) in
      let rest = from_one ds ts (suc ty) (omega (arith, long))
      (λ i e found. subst (λ n. slice_get table n ≡ Some e) (one_more ty i) (entries (suc i) e found))
      (λ i. types (suc i) ∙ ap (type_at (types_in table)) (one_more ty i)) in
      ap (λ n. n + parts_from table ds (suc ty)) first ∙ ap (λ n. form_parts (form_of (facts_in table) t) + n) rest
    where
      none_more : (n : ℕ) → n + 0 ≡ n
      none_more n = omega arith

      one_more : (n i : ℕ) → n + suc i ≡ suc n + i
      one_more n i = omega arith

  from_front : (i : ℕ) → i ≡ 0 + i
  from_front i = omega arith

  pub hooks_by_forms : parts_from table table 0 ≡ hook_parts (facts_in table) (types_in table)
  hooks_by_forms =
      from_one table (types_in table) 0 (count table) (λ i d at. subst (λ n. slice_get table n ≡ Some d) (from_front i) at)
      (λ i. ap (type_at (types_in table)) (from_front i))
