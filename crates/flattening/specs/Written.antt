-- What was put behind lines that are lost where there is no memory for one. It serves proofs alone: the promise of `flatten` doesn't speak of it.
use Rattle.std.specs.Prelude.{◌≡◌, ℕ, List, ◌∷◌, ◌++◌, Option, Some, None}
use Rattle.flattening.specs.declared.written.Arms.{Arms}
use Rattle.flattening.specs.declared.written.Arms.TheVariants.{Lost, Closed, Open}

-- None is a list that is lost. One that isn't lost now wasn't lost before, and got what `put` puts in front of whatever comes behind.
pub record IsPut {X : Type 0} (old new : Option (List X)) (put : List X → List X) : Type 0 where
  pub is : (b : List X) → new ≡ Some b → (a : List X) × (old ≡ Some a) × ((k : List X) → b ++ k ≡ a ++ put k)

-- one, in front of what comes behind
abbrev pub one : {X : Type 0} → X → List X → List X
one x k = x ∷ k

-- What is put of a whole as far as a number, where `left` of the whole goes on, whatever comes last; or all is lost.
abbrev pub GoesOnAt : {X L : Type 0} → Option ℕ → (old new : Option (List X)) → (left : L → ℕ → List X → List X) → (whole : L → List X → List X) → Type 0
GoesOnAt None old new left whole = (any : Option (List _)) (put : List _ → List _) → IsPut any new put
GoesOnAt (Some u) old new left whole = (last : _) (end : Option (List _)) → IsPut new end (left last u) → IsPut old end (whole last)

-- the same of the branches of a `case`, behind which nothing is left where they are closed
abbrev pub ArmsPut : {X L : Type 0} → Arms → (old new : Option (List X)) → (left : L → ℕ → List X → List X) → (whole : L → List X → List X) → Type 0
ArmsPut Lost old new left whole = (any : Option (List _)) (put : List _ → List _) → IsPut any new put
ArmsPut Closed old new left whole = (last : _) → IsPut old new (whole last)
ArmsPut (Open u) old new left whole = (last : _) (end : Option (List _)) → IsPut new end (left last u) → IsPut old end (whole last)
