-- The numbers of types.
use Rattle.std.proofs.Common.{◌≡◌, ℕ, zero, suc, ◌<◌, ◌≤◌, Bool, true, false, List, [], ◌∷◌, length, Some, None, slice_get, refl, ap, ◌∙◌, arith}
use Rattle.std.proofs.lemmas.Bool.{ne_eqb}
use Rattle.std.specs.Prelude.{if◌then◌else◌}
use Rattle.nim_types.specs.Types.{Ty, int, same}
use Rattle.nim_types.specs.declared.types.TypeDef.{TypeDef}
use Rattle.nim_types.specs.Table.{type_at, types_in, facts_in, meant, IsTable}
use Rattle.nim_types.proofs.ForCallers.{count, interned, same_refl, at_entry}
use Rattle.nim_meaning.specs.Here.{is_hooked}
use Rattle.nim_meaning.specs.Shapes.{is_covered}
use Rattle.flattening.specs.Numbering.{type_number}

-- the number of a type is that of the first one that is the same
pub first_number : (ts : List Ty) (ty : Ty) (i : ℕ) → i < length ts → same (type_at ts i) ty ≡ true →
    ((j : ℕ) → j < i → same (type_at ts j) ty ≡ false) → type_number ts ty ≡ i
first_number [] ty i l e other = absurd (omega (arith, l))
first_number (t ∷ ts) ty zero l e other = ap (λ b. if b then zero else suc (type_number ts ty)) e
first_number (t ∷ ts) ty (suc i) l e other =
    ap (λ b. if b then zero else suc (type_number ts ty)) (other zero (omega arith)) ∙
    ap suc (first_number ts ty i (omega (arith, l)) e (λ j m. other (suc j) (omega (arith, m))))

-- and how many there are, where none is
pub no_number : (ts : List Ty) (ty : Ty) → ((j : ℕ) → j < length ts → same (type_at ts j) ty ≡ false) → type_number ts ty ≡ length ts
no_number [] ty other = refl
no_number (t ∷ ts) ty other =
    ap (λ b. if b then zero else suc (type_number ts ty)) (other zero (omega arith)) ∙
    ap suc (no_number ts ty (λ j m. other (suc j) (omega (arith, m))))

-- the types of a table have its numbers
pub number_is : (ds : List TypeDef) → IsTable ds → (i : ℕ) → i < length ds → type_number (types_in ds) (type_at (types_in ds) i) ≡ i
number_is ds table i l =
    let same_length = count ds in
    first_number (types_in ds) (type_at (types_in ds) i) i (omega (arith, l, same_length)) (same_refl (type_at (types_in ds) i))
    (λ j m. interned ds j i table (omega (arith, m, l)) l ∙ ne_eqb j i (λ e. omega (arith, m, e)))

beyond : (ts : List Ty) (i : ℕ) → length ts ≤ i → type_at ts i ≡ int
beyond [] i l = refl
beyond (t ∷ ts) zero l = absurd (omega (arith, l))
beyond (t ∷ ts) (suc i) l = beyond ts i (omega (arith, l))

-- a number beyond the table stands for an int
pub number_beyond : (ds : List TypeDef) (i : ℕ) → length ds ≤ i →
    type_number (types_in ds) (type_at (types_in ds) i) ≡ type_number (types_in ds) int
number_beyond ds i l =
    let same_length = count ds in
    ap (type_number (types_in ds)) (beyond (types_in ds) i (omega (arith, l, same_length)))

-- of which nothing has hooks
pub unhooked_beyond : (ds : List TypeDef) (i : ℕ) → length ds ≤ i → is_hooked (facts_in ds) (type_at (types_in ds) i) ≡ false
unhooked_beyond ds i l =
    let same_length = count ds in
    ap (is_hooked (facts_in ds)) (beyond (types_in ds) i (omega (arith, l, same_length)))

-- ---- what labels cover

none_there : (ds : List TypeDef) (i : ℕ) → slice_get ds i ≡ None → length ds ≤ i
none_there [] i e = omega arith
none_there (d ∷ ds) zero e = absurd cc
none_there (d ∷ ds) (suc i) e = let l = none_there ds i e in omega arith

pub covered_beyond : (ds : List TypeDef) (i : ℕ) → slice_get ds i ≡ None → is_covered (Some (type_at (types_in ds) i)) ≡ true
covered_beyond ds i e =
    let l = none_there ds i e in
    let same_length = count ds in
    ap (λ t. is_covered (Some t)) (beyond (types_in ds) i (omega arith))

pub covered_at : (ds : List TypeDef) (i : ℕ) (d : TypeDef) (b : Bool) → IsTable ds → slice_get ds i ≡ Some d →
    is_covered (Some (meant (types_in ds) d)) ≡ b → is_covered (Some (type_at (types_in ds) i)) ≡ b
covered_at ds i d b table h e = ap (λ t. is_covered (Some t)) (at_entry ds i d table h) ∙ e
