-- Numbers, each once, and their stamps. It serves proofs alone: the promise of `check_text` doesn't speak of it.
use Rattle.std.specs.Prelude.{◌≡◌, ℕ, ◌≤◌, ◌<◌, Bool, true, false, ◌||◌, nat_eq, List, [], ◌∷◌, ◌++◌, Option, Some, None, slice_get}

-- whether a stamp is that of the present time
abbrev pub is_stamped : (now : ℕ) → Option ℕ → Bool
is_stamped now None = false
is_stamped now (Some stamp) = nat_eq stamp now

abbrev pub is_among : ℕ → List ℕ → Bool
is_among n [] = false
is_among n (x ∷ xs) = nat_eq n x || is_among n xs

abbrev pub with_if : Bool → ℕ → List ℕ → List ℕ
with_if true n xs = xs
with_if false n xs = xs ++ n ∷ []

abbrev pub with_number : ℕ → List ℕ → List ℕ
with_number n xs = with_if (is_among n xs) n xs

-- time goes on from 1; stamps are of now or earlier, and those of now are the numbers'
pub record AreStamped (now : ℕ) (stamps numbers : List ℕ) : Type 0 where
  pub begun : 0 < now
  pub past : (n stamp : ℕ) → slice_get stamps n ≡ Some stamp → stamp ≤ now
  pub same : (n : ℕ) → is_stamped now (slice_get stamps n) ≡ is_among n numbers
