-- Lists by number, with one more behind or one in another's place.
use Rattle.std.proofs.Common.{◌≡◌, ℕ, zero, suc, ◌≤◌, Bool, true, false, List, [], ◌∷◌, ◌++◌, length, Some, refl, ap, arith}
use Rattle.std.specs.Prelude.{nat_lt, map, slice_get, slice_set}
use Rattle.nim_program.specs.Program.{Declared}
use Rattle.nim_program.specs.Scopes.{Placed, placed, count_below, one_more}
use Rattle.typing_laws.proofs.Tests.{none_some}

module _ {X : Type 0} where
  pub get_front : (xs ys : List X) (i : ℕ) (x : X) → slice_get xs i ≡ Some x → slice_get (xs ++ ys) i ≡ Some x
  get_front [] ys i x h = none_some h
  get_front (y ∷ xs) ys zero x h = h
  get_front (y ∷ xs) ys (suc i) x h = get_front xs ys i x h

  pub get_last : (xs : List X) (x : X) (ys : List X) → slice_get (xs ++ x ∷ ys) (length xs) ≡ Some x
  get_last [] x ys = refl
  get_last (y ∷ xs) x ys = get_last xs x ys

  pub length_last : (xs : List X) (x : X) → length (xs ++ x ∷ []) ≡ suc (length xs)
  length_last [] x = refl
  length_last (y ∷ xs) x = ap suc (length_last xs x)

  -- one that is there is set
  pub set_same : (xs : List X) (i : ℕ) (x y : X) → slice_get xs i ≡ Some y → slice_get (slice_set xs i x) i ≡ Some x
  set_same [] i x y h = none_some h
  set_same (z ∷ xs) zero x y h = refl
  set_same (z ∷ xs) (suc i) x y h = set_same xs i x y h

  pub set_other : (xs : List X) (i j : ℕ) (x : X) → (j ≡ i → ⊥) → slice_get (slice_set xs i x) j ≡ slice_get xs j
  set_other [] i j x n = refl
  set_other (z ∷ xs) zero zero x n = absurd (n refl)
  set_other (z ∷ xs) zero (suc j) x n = refl
  set_other (z ∷ xs) (suc i) zero x n = refl
  set_other (z ∷ xs) (suc i) (suc j) x n = set_other xs i j x (λ e. n (ap suc e))

pub few_below : (n : ℕ) (ps : List Placed) → count_below n ps ≤ length ps
few_below n [] = omega arith
few_below n (p ∷ ps) = by_test (nat_lt p.number n) (few_below n ps)
  where
    by_test : (b : Bool) → count_below n ps ≤ length ps → one_more b (count_below n ps) ≤ suc (length ps)
    by_test true h = omega (arith, h)
    by_test false h = omega (arith, h)

pub placed_length : (ds : List Declared) → length (map placed ds) ≡ length ds
placed_length [] = refl
placed_length (d ∷ ds) = ap suc (placed_length ds)

pub placed_both : (xs ys : List Declared) → map placed (xs ++ ys) ≡ map placed xs ++ map placed ys
placed_both [] ys = refl
placed_both (d ∷ xs) ys = ap (λ ps. placed d ∷ ps) (placed_both xs ys)
