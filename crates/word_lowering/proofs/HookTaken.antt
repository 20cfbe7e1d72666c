-- The hook by which a place gets an operand, by what stands at its index.
use Rattle.std.proofs.Common.{◌≡◌, ℕ, zero, suc, ◌<◌, ◌≤◌, List, [], ◌∷◌, length, get_or, Some, None, refl, sym, ap, arith}
use Rattle.std.specs.Prelude.{slice_get}
use Rattle.flat_code.specs.declared.line.From.{From}
use Rattle.flat_code.specs.declared.line.From.TheVariants as F
use Rattle.hook_lifting.specs.declared.lifted.Hook.TheVariants.{Assigns, Sinks}
use Rattle.word_lowering.specs.LineCode.{taking}

-- what stands at an index
pub got : {A : Type 0} (xs : List A) (i : ℕ) (x : A) → i < length xs → x ≡ get_or xs i x → slice_get xs i ≡ Some x
got [] i x lt e = absurd (omega (arith, lt))
got (y ∷ xs) zero x lt e = ap Some (sym e)
got (y ∷ xs) (suc i) x lt e = got xs i x (omega (arith, lt)) e

pub none_past : {A : Type 0} (xs : List A) (i : ℕ) → length xs ≤ i → slice_get xs i ≡ None
none_past [] i le = refl
none_past (x ∷ xs) zero le = absurd (omega (arith, le))
none_past (x ∷ xs) (suc i) le = none_past xs i (omega (arith, le))

pub taken_value : (from : List From) (i t : ℕ) → slice_get from i ≡ Some (F.Value t) → taking from i ≡ Sinks
taken_value [] i t e = absurd cc
taken_value (F.Value u ∷ from) zero t e = refl
taken_value (F.Place u ∷ from) zero t e = absurd cc
taken_value (F.Value u ∷ from) (suc i) t e = taken_value from i t e
taken_value (F.Place u ∷ from) (suc i) t e = taken_value from i t e

pub taken_place : (from : List From) (i t : ℕ) → slice_get from i ≡ Some (F.Place t) → taking from i ≡ Assigns
taken_place [] i t e = refl
taken_place (F.Value u ∷ from) zero t e = absurd cc
taken_place (F.Place u ∷ from) zero t e = refl
taken_place (F.Value u ∷ from) (suc i) t e = taken_place from i t e
taken_place (F.Place u ∷ from) (suc i) t e = taken_place from i t e

pub taken_none : (from : List From) (i : ℕ) → slice_get from i ≡ None → taking from i ≡ Assigns
taken_none [] i e = refl
taken_none (F.Value u ∷ from) zero e = absurd cc
taken_none (F.Place u ∷ from) zero e = absurd cc
taken_none (F.Value u ∷ from) (suc i) e = taken_none from i e
taken_none (F.Place u ∷ from) (suc i) e = taken_none from i e
