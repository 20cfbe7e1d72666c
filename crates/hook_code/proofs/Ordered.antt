-- Of a table whose types have forms the type of a part has fewer levels than that of the whole.
use Rattle.std.proofs.Common.{◌≡◌, ℕ, zero, suc, ◌<◌, ◌≤◌, Bool, true, false, List, [], ◌∷◌, Option, Some, None, refl, sym, ap, ◌∙◌, subst, arith}
use Rattle.std.specs.Prelude.{slice_get}
use Rattle.std.proofs.Math.Nat.{le-max_left, le-max_right}
use Rattle.std.proofs.lemmas.Bool.{false≢true, and_parts}
use Rattle.nim_types.specs.Forms.{Form, plain, reference, block, elements, row, parts, resource, wrapped, Forms, object_form, form_of, hooked, of_some, levels}
use Rattle.nim_types.specs.Forms.{most_levels}
use Rattle.nim_types.specs.Entries.{meant_at}
use Rattle.nim_types.specs.Table.{IsTable, types_in, facts_in}
use Rattle.nim_types.specs.declared.types.TypeDef.{TypeDef}
use Rattle.nim_types.specs.declared.types.TypeDef.TheVariants as D
use Rattle.nim_types.proofs.ForCallers.{entry_type}
use Rattle.nim_program.specs.Sizes.{HaveForms}
use Rattle.flat_code.specs.Scene.{known_in}
use Rattle.flat_code.specs.Lines.{form_in}
use Rattle.hook_lifting.specs.Weights.{is_built, all_built}
use Rattle.hook_lifting.specs.Lifted.{has_hooks}
use Rattle.hook_lifting.proofs.ForCallers.{forms_at, entry_form, form_at}
use Rattle.hook_code.specs.Kept.{IsPartOf, IsBase, IsOrdered, rank_in, AreShort}
use Rattle.hook_code.proofs.Known.{none_some, same_some}

module _ (table : List TypeDef) where
  abbrev form : ℕ → Form
  form ty = form_in (known_in table) ty

  -- one of some parts
  part_levels : (ps : List ℕ) (j p : ℕ) → slice_get ps j ≡ Some p → levels (form p) ≤ most_levels (forms_at table ps)
  part_levels [] j p at = absurd (none_some at)
  part_levels (q ∷ ps) zero p at =
      let e : levels (form p) ≡ levels (form q) = ap (λ t. levels (form t)) (sym (same_some q p at)) in
      let m = le-max_left (levels (form q)) (most_levels (forms_at table ps)) in omega (arith, e, m)
  part_levels (q ∷ ps) (suc j) p at =
      let l = part_levels ps j p at in let m = le-max_right (levels (form q)) (most_levels (forms_at table ps)) in omega (arith, l, m)

  -- what has elements with hooks has elements
  row_levels : (n : ℕ) (f : Form) → hooked (row n f) ≡ true → levels f < levels (row n f)
  row_levels zero f is = absurd (false≢true is)
  row_levels (suc n) f is = omega arith

  row_hooked : (n : ℕ) (f : Form) → of_some n (hooked f) ≡ true → hooked f ≡ true
  row_hooked zero f is = absurd (false≢true is)
  row_hooked (suc n) f is = is

  object_levels : (own : Bool) (fs : Forms) (l : ℕ) → l ≤ most_levels fs → l < levels (object_form own fs)
  object_levels true fs l le = omega (arith, le)
  object_levels false fs l le = omega (arith, le)

  some_levels : (f : Form) → 1 ≤ levels f
  some_levels plain = omega arith
  some_levels reference = omega arith
  some_levels block = omega arith
  some_levels (elements f) = omega arith
  some_levels (row zero f) = omega arith
  some_levels (row (suc n) f) = omega arith
  some_levels (parts fs) = omega arith
  some_levels (resource fs) = omega arith
  some_levels (wrapped f) = omega arith

  built_part : (ps : List ℕ) (j p : ℕ) → slice_get ps j ≡ Some p → all_built (forms_at table ps) ≡ true → is_built (form p) ≡ true
  built_part [] j p at built = absurd (none_some at)
  built_part (q ∷ ps) zero p at built =
      subst (λ t. is_built (form t) ≡ true) (same_some q p at) (and_parts (is_built (form q)) (all_built (forms_at table ps)) built).0
  built_part (q ∷ ps) (suc j) p at built = built_part ps j p at (and_parts (is_built (form q)) (all_built (forms_at table ps)) built).1

  built_by : (p : ℕ) (d : TypeDef) → IsPartOf d p → is_built (entry_form table d) ≡ true → is_built (form p) ≡ true
  built_by p (D.Seq of) part built = subst (λ t. is_built (form t) ≡ true) part built
  built_by p (D.Array n of) part built = subst (λ t. is_built (form t) ≡ true) part built
  built_by p (D.Tuple names ps) part built = built_part ps part.0 p part.1 built
  built_by p (D.Object name place of names true ps) part built = absurd (false≢true built)
  built_by p (D.Object name place of names false ps) part built = built_part ps part.0 p part.1 built
  built_by p (D.Distinct name place base) part built = subst (λ t. is_built (form t) ≡ true) part built
  built_by p D.Int part built = absurd part
  built_by p D.Bool part built = absurd part
  built_by p D.Char part built = absurd part
  built_by p D.Text part built = absurd part
  built_by p (D.Param n) part built = absurd part
  built_by p (D.Enum name place all) part built = absurd part
  built_by p (D.Ref name base) part built = absurd part
  built_by p (D.Exception name place parent) part built = absurd part

  module _ (is_table : IsTable table) (formed : HaveForms table) where
    -- only an entry has hooks
    pub entry_there : (p : ℕ) → has_hooks table p ≡ true → (e : TypeDef) × (slice_get table p ≡ Some e)
    entry_there p hooks = by (slice_get table p) refl
      where
        by : (o : Option TypeDef) → slice_get table p ≡ o → (e : TypeDef) × (slice_get table p ≡ Some e)
        by (Some e) at = (e, at)
        by None none =
            absurd (false≢true (sym (ap (λ t. hooked (form_of (facts_in table) t))
            (entry_type table is_table p ∙ ap (meant_at (types_in table)) none)) ∙ hooks))

    lower_by : (ty p : ℕ) (d : TypeDef) → IsPartOf d p → form ty ≡ entry_form table d → hooked (entry_form table d) ≡ true
        → levels (form p) < levels (entry_form table d)
    lower_by ty p (D.Seq of) part e hooks = let x : levels (form p) ≡ levels (form of) = ap (λ t. levels (form t)) (sym part) in omega (arith, x)
    lower_by ty p (D.Array n of) part e hooks =
        let x : levels (form p) ≡ levels (form of) = ap (λ t. levels (form t)) (sym part) in
        let l = row_levels n (form of) hooks in omega (arith, x, l)
    lower_by ty p (D.Tuple names ps) part e hooks = let l = part_levels ps part.0 p part.1 in omega (arith, l)
    lower_by ty p (D.Object name place of names own ps) part e hooks =
        object_levels own (forms_at table ps) (levels (form p)) (part_levels ps part.0 p part.1)
    lower_by ty p (D.Distinct name place base) part e hooks =
        let x : levels (form p) ≡ levels (form base) = ap (λ t. levels (form t)) (sym part) in omega (arith, x)
    lower_by ty p D.Int part e hooks = absurd part
    lower_by ty p D.Bool part e hooks = absurd part
    lower_by ty p D.Char part e hooks = absurd part
    lower_by ty p D.Text part e hooks = absurd part
    lower_by ty p (D.Param n) part e hooks = absurd part
    lower_by ty p (D.Enum name place all) part e hooks = absurd part
    lower_by ty p (D.Ref name base) part e hooks = absurd part
    lower_by ty p (D.Exception name place parent) part e hooks = absurd part

    base_hooked : (ty base : ℕ) (d : TypeDef) → IsBase d base → hooked (entry_form table d) ≡ true → has_hooks table base ≡ true
    base_hooked ty base (D.Distinct name place of) is hooks = subst (λ t. has_hooks table t ≡ true) is hooks
    base_hooked ty base (D.Seq of) is hooks = absurd is
    base_hooked ty base (D.Array n of) is hooks = absurd is
    base_hooked ty base (D.Tuple names ps) is hooks = absurd is
    base_hooked ty base (D.Object name place of names own ps) is hooks = absurd is
    base_hooked ty base D.Int is hooks = absurd is
    base_hooked ty base D.Bool is hooks = absurd is
    base_hooked ty base D.Char is hooks = absurd is
    base_hooked ty base D.Text is hooks = absurd is
    base_hooked ty base (D.Param n) is hooks = absurd is
    base_hooked ty base (D.Enum name place all) is hooks = absurd is
    base_hooked ty base (D.Ref name of) is hooks = absurd is
    base_hooked ty base (D.Exception name place parent) is hooks = absurd is

    hooked_entry : (ty : ℕ) (d : TypeDef) → slice_get table ty ≡ Some d → has_hooks table ty ≡ true → hooked (entry_form table d) ≡ true
    hooked_entry ty d at hooks = subst (λ f. hooked f ≡ true) (form_at table is_table formed ty d at) hooks

    pub is_ordered : AreShort table → IsOrdered table (rank_in table)
    is_ordered short = record {
      parts = λ ty p d at part hooks some.
          let there = entry_there p some in
          let e = form_at table is_table formed ty d at in
          (there.0, there.1, subst (λ f. levels (form p) < levels f) (sym e) (lower_by ty p d part e (hooked_entry ty d at hooks)));
      arrays = λ ty n of at hooks. (row_hooked n (form of) (hooked_entry ty (D.Array n of) at hooks), short ty n of at);
      bases = λ ty base d at is hooks. base_hooked ty base d is (hooked_entry ty d at hooks);
      texts = λ ty at. form_at table is_table formed ty D.Text at;
      some = λ ty. some_levels (form ty);
      built = λ ty p d at part built. built_by p d part (subst (λ f. is_built f ≡ true) (form_at table is_table formed ty d at) built);
    }
