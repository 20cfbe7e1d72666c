-- That each point of a body stands in one place: the numbers of places of a typed tree, and the points and scopes of acts.
use Rattle.std.specs.Prelude.{◌≡◌, ℕ, List, [], ◌∷◌, ◌++◌, ◌⊎◌}
use Rattle.nim_program.specs.Program.{Declared}
use Rattle.nim_meaning.specs.ActTree.{Root, Role, Turns, Chooses, Does, Leaves}
use Rattle.nim_meaning.specs.ActTree.{Control, Do, Choose, Loop, Break, Continue, Return, Call, Group, Arms, No_arm, An_arm, Acts, Done, Then, Bind, Result}

abbrev pub Member : {X : Type 0} → X → List X → Type 0
Member x [] = ⊥
Member x (y ∷ ys) = (x ≡ y) ⊎ Member x ys

-- no element comes twice
abbrev pub Distinct : {X : Type 0} → List X → Type 0
Distinct [] = Unit {0}
Distinct (x ∷ xs) = (Member x xs → ⊥) × Distinct xs

abbrev pub place_numbers : List Declared → List ℕ
place_numbers [] = []
place_numbers (place ∷ places) = place.number ∷ place_numbers places

-- ---- the points and scopes of acts

pub data Mark : Type 0 where
  Spot : (node : ℕ) (role : Role) → Mark
  Scope : (place : Root) → Mark

abbrev mutual
  pub marks : Control → List Mark
  marks (Do n r a) = Spot n r ∷ []
  marks (Choose n r arms) = Spot n r ∷ arm_marks arms
  marks (Loop n c b) = Spot n Turns ∷ Spot n Chooses ∷ all_marks c ++ all_marks b
  marks (Break n) = Spot n Leaves ∷ []
  marks (Continue n) = Spot n Leaves ∷ []
  marks (Return n) = Spot n Leaves ∷ []
  marks (Call n p on) = Spot n Does ∷ []
  marks (Group n r b) = Spot n r ∷ all_marks b

  pub arm_marks : Arms → List Mark
  arm_marks No_arm = []
  arm_marks (An_arm a rest) = all_marks a ++ arm_marks rest

  pub all_marks : Acts → List Mark
  all_marks Done = []
  all_marks (Then s b) = marks s ++ all_marks b
  all_marks (Bind x l b) = Scope x ∷ all_marks b
  all_marks (Result x l b) = Scope x ∷ all_marks b
