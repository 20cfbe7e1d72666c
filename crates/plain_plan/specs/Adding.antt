-- What was added to a set of sites that is lost where there is no memory for one. It serves proofs alone.
use Rattle.std.specs.Prelude.{◌≡◌, ℕ, List, [], ◌∷◌, Option, Some}
use Rattle.nim_plan.specs.Order.{with_site}

abbrev pub with_all : List ℕ → List ℕ → List ℕ
with_all sites [] = sites
with_all sites (x ∷ xs) = with_all (with_site sites x) xs

-- None is a set that is lost. One that isn't lost now wasn't lost before, and got these.
pub record Adds (old new : Option (List ℕ)) (xs : List ℕ) : Type 0 where
  pub is : (b : List ℕ) → new ≡ Some b → (a : List ℕ) × (old ≡ Some a) × (b ≡ with_all a xs)
