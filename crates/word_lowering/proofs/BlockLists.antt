-- Blocks by identity: a list with one more, or with another one.
use Rattle.std.proofs.Common.{◌≡◌, ℕ, zero, suc, ◌<◌, ◌≤◌, List, [], ◌∷◌, ◌++◌, length, Option, Some, None, refl, ap, arith}
use Rattle.std.specs.Prelude.{slice_get, slice_set}
use Rattle.nim_meaning.specs.Heap.{Block, flat}
use Rattle.word_lowering.proofs.Options.{none_some}

pub get_before : {A : Type 0} (xs : List A) (x : A) (k : ℕ) → k < length xs → slice_get (xs ++ x ∷ []) k ≡ slice_get xs k
get_before [] x k less = absurd (omega (arith, less))
get_before (y ∷ xs) x zero less = refl
get_before (y ∷ xs) x (suc k) less = get_before xs x k (omega (arith, less))

pub get_here : {A : Type 0} (xs : List A) (x : A) → slice_get (xs ++ x ∷ []) (length xs) ≡ Some x
get_here [] x = refl
get_here (y ∷ xs) x = get_here xs x

pub get_past : {A : Type 0} (xs : List A) (k : ℕ) → length xs ≤ k → slice_get xs k ≡ None
get_past [] k less = refl
get_past (y ∷ xs) zero less = absurd (omega (arith, less))
get_past (y ∷ xs) (suc k) less = get_past xs k (omega (arith, less))

pub get_beyond : {A : Type 0} (xs : List A) (x : A) (k : ℕ) → length xs < k → slice_get (xs ++ x ∷ []) k ≡ None
get_beyond [] x zero less = absurd (omega (arith, less))
get_beyond [] x (suc k) less = refl
get_beyond (y ∷ xs) x zero less = absurd (omega (arith, less))
get_beyond (y ∷ xs) x (suc k) less = get_beyond xs x k (omega (arith, less))

pub length_more : {A : Type 0} (xs : List A) (x : A) → length (xs ++ x ∷ []) ≡ suc (length xs)
length_more [] x = refl
length_more (y ∷ xs) x = ap suc (length_more xs x)

pub get_some : {A : Type 0} (xs : List A) (k : ℕ) (x : A) → slice_get xs k ≡ Some x → k < length xs
get_some [] k x e = absurd (none_some x e)
get_some (y ∷ xs) zero x e = omega arith
get_some (y ∷ xs) (suc k) x e = let h = get_some xs k x e in omega (arith, h)

pub set_same : {A : Type 0} (xs : List A) (k : ℕ) (x : A) → k < length xs → slice_get (slice_set xs k x) k ≡ Some x
set_same [] k x h = absurd (omega (arith, h))
set_same (y ∷ xs) zero x h = refl
set_same (y ∷ xs) (suc k) x h = set_same xs k x (omega (arith, h))

pub set_other : {A : Type 0} (xs : List A) (k j : ℕ) (x : A) → (j ≡ k → ⊥) → slice_get (slice_set xs k x) j ≡ slice_get xs j
set_other [] k j x ne = refl
set_other (y ∷ xs) zero zero x ne = absurd (ne refl)
set_other (y ∷ xs) zero (suc j) x ne = refl
set_other (y ∷ xs) (suc k) zero x ne = refl
set_other (y ∷ xs) (suc k) (suc j) x ne = set_other xs k j x (λ e. ne (ap suc e))

pub set_length : {A : Type 0} (xs : List A) (k : ℕ) (x : A) → length (slice_set xs k x) ≡ length xs
set_length [] k x = refl
set_length (y ∷ xs) zero x = refl
set_length (y ∷ xs) (suc k) x = ap suc (set_length xs k x)

-- a block that is there stands in the list
pub there_is : (o : Option (Option Block)) (b : Block) → flat o ≡ Some b → o ≡ Some (Some b)
there_is None b e = absurd (none_some b e)
there_is (Some None) b e = absurd (none_some b e)
there_is (Some (Some c)) b e = ap Some e

pub there_below : (bs : List (Option Block)) (k : ℕ) (b : Block) → flat (slice_get bs k) ≡ Some b → k < length bs
there_below bs k b e = get_some bs k (Some b) (there_is (slice_get bs k) b e)
