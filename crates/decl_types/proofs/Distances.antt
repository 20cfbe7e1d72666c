-- No type of a section occurs in a type that was in the table before.
use Rattle.std.proofs.Common.{◌≡◌, ℕ, zero, suc, ◌+◌, ◌<◌, List, [], ◌∷◌, length, Some, refl, sym, ap, ap₂, subst, ◌∙◌, arith}
use Rattle.std.specs.Prelude.{Bool, false, ◌||◌, slice_get}
use Rattle.std.proofs.lemmas.Option.{none-some, same_Some}
use Rattle.nim_tree.specs.Types.{Declaration}
use Rattle.nim_types.specs.declared.types.TypeDef.{TypeDef}
use Rattle.nim_types.specs.declared.types.TypeDef.TheVariants as D
use Rattle.nim_types.specs.Types as type
use Rattle.nim_types.specs.Types.{Ty, Key, Facts}
use Rattle.nim_types.specs.Table.{type_at, types_at, types_in, meant, key_of, IsTable, IsWithin, WithinOnto, AllBelow}
use Rattle.nim_types.proofs.ForCallers.{at_entry}
use Rattle.expr_parts.specs.View.{Under}
use Rattle.decl_rules.specs.Meanings.{occurs, occurs_in, renamed, renamed_all, keys_of, is_key_among}
use Rattle.decl_types.proofs.Declaring.{type_front}
use Rattle.decl_types.specs.ViewPlaces.{Ascends, IsFar, AllFar}
use Rattle.decl_types.specs.ViewScoped.{Away}
use Rattle.decl_types.proofs.Positions.{far_key}

within_at : (m : ℕ) (ds : List TypeDef) (i : ℕ) (d : TypeDef) → WithinOnto m ds → slice_get ds i ≡ Some d → IsWithin (m + i) d
within_at m [] i d h e = absurd (none-some d e)
within_at m (x ∷ ds) zero d h e =
    let n : m ≡ m + 0 = omega arith in
    subst (λ (k : ℕ). IsWithin k d) n (subst (IsWithin m) (same_Some x d e) h.0)
within_at m (x ∷ ds) (suc i) d h e =
    let n : suc m + i ≡ m + suc i = omega arith in
    subst (λ (k : ℕ). IsWithin k d) n (within_at (suc m) ds i d h.1 e)

entry_at : (ds : List TypeDef) (i : ℕ) → i < length ds → (d : TypeDef) × (slice_get ds i ≡ Some d)
entry_at [] i h = absurd (omega (arith, h))
entry_at (d ∷ ds) zero h = (d, refl)
entry_at (d ∷ ds) (suc i) h = entry_at ds i (omega (arith, h))

abbrev Closed : List TypeDef → (Ty → Type 0) → Type 0
Closed ds P =
    (id : ℕ) (d : TypeDef) → slice_get ds id ≡ Some d → ((j : ℕ) → j < id → P (type_at (types_in ds) j)) → IsWithin id d
    → P (meant (types_in ds) d)

-- what holds of an entry where it holds of those before it holds of all
all_below : (ds : List TypeDef) (P : Ty → Type 0) → IsTable ds → Closed ds P → (b id : ℕ) → id < b → id < length ds
    → P (type_at (types_in ds) id)
all_below ds P t step zero id lt h = absurd (omega (arith, lt))
all_below ds P t step (suc b) id lt h =
    let e = entry_at ds id h in
    let zero_on : 0 + id ≡ id = omega arith in
    subst P (sym (at_entry ds id e.0 t e.1))
    (step id e.0 e.1 (λ j k. all_below ds P t step b j (omega (arith, k, lt)) (omega (arith, k, h)))
    (subst (λ (k : ℕ). IsWithin k e.0) zero_on (within_at 0 ds id e.0 t.within e.1)))

abbrev Outside : List Key → (Key → Type 0) → Type 0
Outside keys P = (key : Key) → is_key_among key keys ≡ false → P key

-- ---- what occurs

parts_apart : (is_meant : Key → Bool) (ts : List Ty) (n : ℕ) (is : List ℕ) → ((j : ℕ) → j < n → occurs is_meant (type_at ts j) ≡ false)
    → AllBelow n is
    → occurs_in is_meant (types_at ts is) ≡ false
parts_apart is_meant ts n [] h w = refl
parts_apart is_meant ts n (i ∷ is) h w = ap₂ (λ a b. a || b) (h i w.0) (parts_apart is_meant ts n is h w.1)

entry_apart : (home last : ℕ) (all : List Declaration) (is_meant : Key → Bool) (ts : List Ty) (id : ℕ) (d : TypeDef) → Ascends home last all
    → Outside (keys_of all) (λ key. is_meant key ≡ false) → IsFar home last d → ((j : ℕ) → j < id → occurs is_meant (type_at ts j) ≡ false)
    → IsWithin id d → occurs is_meant (meant ts d) ≡ false
entry_apart home last all is_meant ts id D.Int o f far h w = refl
entry_apart home last all is_meant ts id D.Bool o f far h w = refl
entry_apart home last all is_meant ts id D.Char o f far h w = refl
entry_apart home last all is_meant ts id D.Text o f far h w = refl
entry_apart home last all is_meant ts id (D.Seq i) o f far h w = h i w
entry_apart home last all is_meant ts id (D.Param n) o f far h w = refl
entry_apart home last all is_meant ts id (D.Enum name at members) o f far h w = refl
entry_apart home last all is_meant ts id (D.Array n i) o f far h w = h i w
entry_apart home last all is_meant ts id (D.Tuple names is) o f far h w = parts_apart is_meant ts id is h w
entry_apart home last all is_meant ts id (D.Object name at is fields own parts) o f far h w = parts_apart is_meant ts id is h w
entry_apart home last all is_meant ts id (D.Distinct name at i) o f far h w = f (key_of name at) (far_key home last all (key_of name at) o far)
entry_apart home last all is_meant ts id (D.Ref name i) o f far h w = refl
entry_apart home last all is_meant ts id (D.Exception name at parent) o f far h w = refl

-- ---- what is renamed

parts_untouched : (by : Key → Ty) (ts : List Ty) (n : ℕ) (is : List ℕ) → ((j : ℕ) → j < n → renamed by (type_at ts j) ≡ type_at ts j)
    → AllBelow n is
    → renamed_all by (types_at ts is) ≡ types_at ts is
parts_untouched by ts n [] h w = refl
parts_untouched by ts n (i ∷ is) h w = ap₂ type.types (h i w.0) (parts_untouched by ts n is h w.1)

entry_untouched : (home last : ℕ) (all : List Declaration) (by : Key → Ty) (ts : List Ty) (id : ℕ) (d : TypeDef) → Ascends home last all
    → Outside (keys_of all) (λ key. by key ≡ type.distinct key) → IsFar home last d
    → ((j : ℕ) → j < id → renamed by (type_at ts j) ≡ type_at ts j)
    → IsWithin id d → renamed by (meant ts d) ≡ meant ts d
entry_untouched home last all by ts id D.Int o f far h w = refl
entry_untouched home last all by ts id D.Bool o f far h w = refl
entry_untouched home last all by ts id D.Char o f far h w = refl
entry_untouched home last all by ts id D.Text o f far h w = refl
entry_untouched home last all by ts id (D.Seq i) o f far h w = ap type.sequence (h i w)
entry_untouched home last all by ts id (D.Param n) o f far h w = refl
entry_untouched home last all by ts id (D.Enum name at members) o f far h w = refl
entry_untouched home last all by ts id (D.Array n i) o f far h w = ap (type.array n) (h i w)
entry_untouched home last all by ts id (D.Tuple names is) o f far h w = ap (type.tuple names) (parts_untouched by ts id is h w)
entry_untouched home last all by ts id (D.Object name at is fields own parts) o f far h w =
    ap (type.object (key_of name at)) (parts_untouched by ts id is h w)
entry_untouched home last all by ts id (D.Distinct name at i) o f far h w = f (key_of name at) (far_key home last all (key_of name at) o far)
entry_untouched home last all by ts id (D.Ref name i) o f far h w = ap (type.ref name) (h i w)
entry_untouched home last all by ts id (D.Exception name at parent) o f far h w = refl

-- ---- both

pub all_away : (home last : ℕ) (all : List Declaration) (ds : List TypeDef) (ts : List Ty) (facts : Facts) → Ascends home last all → AllFar home last ds
    → Under ds ts facts → Away ts (length ds) (keys_of all)
all_away home last all ds ts facts o far u = record {
  apart = λ is_meant f id lt.
      ap (occurs is_meant) (type_front ts ds facts id u lt)
      ∙ all_below ds (λ ty. occurs is_meant ty ≡ false) u.table
      (λ i d get h w. entry_apart home last all is_meant (types_in ds) i d o f (far i d get) h w) (suc id) id (omega arith) lt;
  untouched = λ by f id lt.
      let e = type_front ts ds facts id u lt in
      ap (renamed by) e
      ∙ all_below ds (λ ty. renamed by ty ≡ ty) u.table
      (λ i d get h w. entry_untouched home last all by (types_in ds) i d o f (far i d get) h w) (suc id) id (omega arith) lt
      ∙ sym e;
}
