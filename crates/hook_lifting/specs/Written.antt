-- What was put behind lines that are lost where there is no memory for one. It serves proofs alone.
use Rattle.std.specs.Prelude.{◌≡◌, List, ◌∷◌, ◌++◌, Option, Some}

-- None is a list that is lost. One that isn't lost now wasn't lost before, and got what `put` puts in front of whatever comes behind.
pub record IsPut {X : Type 0} (old new : Option (List X)) (put : List X → List X) : Type 0 where
  pub is : (b : List X) → new ≡ Some b → (a : List X) × (old ≡ Some a) × ((k : List X) → b ++ k ≡ a ++ put k)

-- one, in front of what comes behind
abbrev pub one : {X : Type 0} → X → List X → List X
one x k = x ∷ k
