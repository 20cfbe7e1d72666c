-- A number beyond a table of types counts as an int.
use Rattle.std.proofs.Common.{◌≡◌, refl, sym, arith, ℕ, zero, suc, ◌≤◌, List, [], ◌∷◌, length, None}
use Rattle.std.specs.Prelude.{slice_get}
use Rattle.std.proofs.lemmas.Option.{none-some}
use Rattle.nim_types.specs.Types.{Ty, int}
use Rattle.nim_types.specs.declared.types.TypeDef.{TypeDef}
use Rattle.nim_types.specs.Table.{type_at, types_in}

beyond : {A : Type 0} (xs : List A) (i : ℕ) → slice_get xs i ≡ None → length xs ≤ i
beyond [] i e = omega arith
beyond (x ∷ xs) zero e = absurd (none-some x (sym e))
beyond (x ∷ xs) (suc i) e = omega (arith, beyond xs i e)

an_int : (ts : List Ty) (i : ℕ) → length ts ≤ i → type_at ts i ≡ int
an_int [] i le = refl
an_int (t ∷ ts) zero le = absurd (omega (arith, le))
an_int (t ∷ ts) (suc i) le = an_int ts i (omega (arith, le))

pub no_entry : (ds : List TypeDef) (i : ℕ) → length (types_in ds) ≡ length ds → slice_get ds i ≡ None → type_at (types_in ds) i ≡ int
no_entry ds i e none = let le = beyond ds i none in an_int (types_in ds) i (omega (arith, le, e))
