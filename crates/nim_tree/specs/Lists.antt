-- Numbers of the elements of lists.
use Rattle.std.specs.Prelude.{ℕ, ◌+◌, max, List, [], ◌∷◌, Option, Some, None}

-- the highest number of an element
abbrev pub highest : {A : Type 0} → (A → ℕ) → List A → ℕ
highest f [] = 0
highest f (first ∷ rest) = max (f first) (highest f rest)

-- the numbers of the elements together
abbrev pub total : {A : Type 0} → (A → ℕ) → List A → ℕ
total f [] = 0
total f (first ∷ rest) = f first + total f rest

-- the number of what is there, else 0
abbrev pub if_there : {A : Type 0} → (A → ℕ) → Option A → ℕ
if_there f None = 0
if_there f (Some a) = f a

abbrev pub one : {A : Type 0} → A → ℕ
one a = 1
