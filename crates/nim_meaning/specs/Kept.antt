-- What is kept of the world.
use Rattle.std.specs.Prelude.{◌≡◌, ℕ, suc, ◌+◌, ◌-◌, ◌*◌, max, nat_eq, if◌then◌else◌, List, [], ◌∷◌, length, Option, Some, None}
use Rattle.arc_base.specs.BigStep.{Res, Got, Over, Going, Errs}
use Rattle.nim_meaning.specs.Heap.{Class, Block, block_at, demand}
use Rattle.nim_meaning.specs.State.{Happening, Took, Gave, Born, Ended, OfBlock, OfResource, World, State}

-- At an answer the world is as J says; where the run has ended, or goes on without a unit, as K says; and where it is wrong, as W says.
abbrev pub Meets : {A : Type 0} → (W K : World → Type 0) → (J : A → World → Type 0) → Res State A → Type 0
Meets W K J (Got x s) = J x s.world
Meets W K J (Over status live s) = K s.world
Meets W K J (Going s) = K s.world
Meets W K J (Errs s) = W s.world

-- at an answer the world is so
abbrev pub IsKept : {A : Type 0} → (A → World → Type 0) → Res State A → Type 0
IsKept J r = Meets (λ world. Unit {0}) (λ world. Unit {0}) J r

-- wherever it stands the world is so
abbrev pub IsAlways : {A : Type 0} → (World → Type 0) → Res State A → Type 0
IsAlways K r = Meets K K (λ x. K) r

-- as many frames as calls are active, and that of the start code
abbrev pub Framed : ℕ → World → Type 0
Framed level world = length world.frames ≡ suc level

-- ---- blocks of a size

abbrev pub one_if_same : ℕ → ℕ → ℕ
one_if_same m n = if nat_eq m n then 1 else 0

-- how many were taken, and how many given back
abbrev pub takes_of : (size : ℕ) → List Happening → ℕ
takes_of size [] = 0
takes_of size (Took n ∷ history) = one_if_same n size + takes_of size history
takes_of size (Gave n ∷ history) = takes_of size history
takes_of size (Born k ∷ history) = takes_of size history
takes_of size (Ended k ∷ history) = takes_of size history

abbrev pub gives_of : (size : ℕ) → List Happening → ℕ
gives_of size [] = 0
gives_of size (Took n ∷ history) = gives_of size history
gives_of size (Gave n ∷ history) = one_if_same n size + gives_of size history
gives_of size (Born k ∷ history) = gives_of size history
gives_of size (Ended k ∷ history) = gives_of size history

-- how many are live
abbrev pub live_of : (size : ℕ) → List Class → ℕ
live_of size [] = 0
live_of size (c ∷ classes) = (if nat_eq c.size size then c.live else 0) + live_of size classes

-- what was taken of each size is live, or was given back
abbrev pub IsBalanced : World → Type 0
IsBalanced world = (size : ℕ) → takes_of size world.history ≡ live_of size world.heap.classes + gives_of size world.history

-- ---- identities of blocks

-- how often a block was born, and how often it ended
abbrev pub born_of : (block : ℕ) → List Happening → ℕ
born_of k [] = 0
born_of k (Took size ∷ history) = born_of k history
born_of k (Gave size ∷ history) = born_of k history
born_of k (Born (OfBlock j) ∷ history) = one_if_same j k + born_of k history
born_of k (Born (OfResource n) ∷ history) = born_of k history
born_of k (Ended identity ∷ history) = born_of k history

abbrev pub ended_of : (block : ℕ) → List Happening → ℕ
ended_of k [] = 0
ended_of k (Took size ∷ history) = ended_of k history
ended_of k (Gave size ∷ history) = ended_of k history
ended_of k (Born identity ∷ history) = ended_of k history
ended_of k (Ended (OfBlock j) ∷ history) = one_if_same j k + ended_of k history
ended_of k (Ended (OfResource n) ∷ history) = ended_of k history

-- each block is born once, and ends at most once, behind its birth
abbrev pub IsOrdered : List Happening → Type 0
IsOrdered [] = Unit {0}
IsOrdered (Took size ∷ history) = IsOrdered history
IsOrdered (Gave size ∷ history) = IsOrdered history
IsOrdered (Born (OfBlock k) ∷ history) = (born_of k history ≡ 0) × IsOrdered history
IsOrdered (Born (OfResource n) ∷ history) = IsOrdered history
IsOrdered (Ended (OfBlock k) ∷ history) = (born_of k history ≡ 1) × ((ended_of k history ≡ 0) × IsOrdered history)
IsOrdered (Ended (OfResource n) ∷ history) = IsOrdered history

abbrev pub one_if_there : Option Block → ℕ
one_if_there None = 0
one_if_there (Some block) = 1

-- and it is live in between
abbrev pub IsOnce : World → Type 0
IsOnce world = IsOrdered world.history
    × ((k : ℕ) → ended_of k world.history + one_if_there (block_at world.heap k) ≡ born_of k world.history)

-- ---- the demand

-- the most blocks of a size that were live at one time
abbrev pub most_of : (size : ℕ) → List Happening → ℕ
most_of size [] = 0
most_of size (h ∷ history) = max (takes_of size (h ∷ history) - gives_of size (h ∷ history)) (most_of size history)

-- the sum over the sizes of the size times these
abbrev pub asked_for : List Class → List Happening → ℕ
asked_for [] history = 0
asked_for (c ∷ classes) history = c.size * most_of c.size history + asked_for classes history

abbrev pub IsAskedFor : World → Type 0
IsAskedFor world = demand world.heap.classes ≡ asked_for world.heap.classes world.history
