-- Types for whose values hooks are called: their entries, forms and shapes, and how far their hooks go.
use Rattle.std.proofs.Common.{◌≡◌, ℕ, zero, suc, ◌<◌, ◌≤◌, List, [], ◌∷◌, length, Bool, true, false, Some, refl, sym, arith}
use Rattle.std.proofs.lemmas.Bool.{and_from, and_parts, ltb-true}
use Rattle.std.specs.Prelude.{nat_lt, slice_get, ◌||◌}
use Rattle.nim_types.specs.Forms.{Form, Forms, block, elements, form_of, forms, hooked, no_forms, parts, plain, reference, resource, row, wrapped}
use Rattle.nim_types.specs.Table.{facts_in, type_at, types_in}
use Rattle.nim_types.specs.declared.types.TypeDef.{TypeDef}
use Rattle.nim_meaning.specs.Unbuilt.{has_unbuilt, has_unbuilt_any, is_unbuilt}
use Rattle.flat_code.specs.Lines.{form_in}
use Rattle.flat_code.specs.Scene.{known_in}
use Rattle.flat_code.specs.Shapes.{shape_of}
use Rattle.hook_lifting.specs.declared.lifted.Hook.{Hook}
use Rattle.hook_lifting.specs.declared.lifted.Hook.TheVariants.{Assigns, Copies, Ends, Sinks}
use Rattle.hook_lifting.specs.Lifted.{has_hooks}
use Rattle.hook_lifting.specs.Weights.{all_built, is_built}
use Rattle.hook_code.specs.Kept.{chain_of, rank_in}
use Rattle.word_lowering.specs.Stored.{is_hooked}
use Rattle.word_lowering.proofs.Lines.{Basis}
use Rattle.word_lowering.proofs.ShapeFacts.{never, of_numbers}

some_at : {A : Type 0} (xs : List A) (k : ℕ) → k < length xs → (x : A) × (slice_get xs k ≡ Some x)
some_at [] k h = absurd (omega (arith, h))
some_at (x ∷ xs) zero h = (x, refl)
some_at (x ∷ xs) (suc k) h = some_at xs k (omega (arith, h))

or_neither : (a b : Bool) → (a || b) ≡ false → (a ≡ false) × (b ≡ false)
or_neither true b h = never (sym h)
or_neither false b h = (refl, h)

mutual
  pub built_form : (f : Form) → has_unbuilt f ≡ false → is_built f ≡ true
  built_form plain h = refl
  built_form reference h = never (sym h)
  built_form block h = refl
  built_form (elements f) h = built_form f h
  built_form (row n f) h = built_form f h
  built_form (parts fs) h = built_forms fs h
  built_form (resource fs) h = never (sym h)
  built_form (wrapped f) h = built_form f h

  built_forms : (fs : Forms) → has_unbuilt_any fs ≡ false → all_built fs ≡ true
  built_forms no_forms h = refl
  built_forms (forms f fs) h =
      let p = or_neither (has_unbuilt f) (has_unbuilt_any fs) h in and_from (is_built f) (all_built fs) (built_form f p.0) (built_forms fs p.1)

pub record HookedType (x : Basis) (ty : ℕ) : Type 0 where
  pub def : TypeDef
  pub entry : slice_get x.table ty ≡ Some def
  pub hooks : has_hooks x.table ty ≡ true
  pub built : is_built (form_in (known_in x.table) ty) ≡ true
  pub numbers : of_numbers (shape_of (facts_in x.table) (type_at (types_in x.table) ty)) ≡ false
  pub levels : rank_in x.table ty ≤ 64

pub hooked_type : (x : Basis) (ty : ℕ) → is_hooked x.table ty ≡ true → is_unbuilt (facts_in x.table) (type_at (types_in x.table) ty) ≡ false
    → rank_in x.table ty ≤ 64 → HookedType x ty
hooked_type x ty is built few =
    let p = and_parts (nat_lt ty (length x.table)) (hooked (form_of (facts_in x.table) (type_at (types_in x.table) ty))) is in
    let d = some_at x.table ty (ltb-true ty (length x.table) p.0) in
    record {
      def = d.0;
      entry = d.1;
      hooks = p.1;
      built = built_form (form_in (known_in x.table) ty) built;
      numbers = x.shaped ty is;
      levels = few;
    }

module _ (x : Basis) (ty : ℕ) (h : HookedType x ty) where
  pub chain_few : (hook : Hook) → chain_of hook (rank_in x.table ty) ≤ 131
  chain_few Copies = let l = h.levels in omega (arith, l)
  chain_few Ends = let l = h.levels in omega (arith, l)
  chain_few Assigns = let l = h.levels in omega (arith, l)
  chain_few Sinks = let l = h.levels in omega (arith, l)
