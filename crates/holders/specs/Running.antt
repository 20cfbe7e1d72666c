-- What a part of a body does: it works on cells of its own, which come and go, and on those that it was given. All else is as it was.
use Rattle.std.specs.Prelude.{◌≡◌, Bool, true, ◌<◌, ◌+◌, ◌≤◌, ◌⊎◌, ℕ, List, ◌++◌, length}
use Rattle.nim_meaning.specs.Values.{Value, Base, Standing, Waiting, Location}
use Rattle.nim_meaning.specs.Marks.{Member}
use Rattle.nim_meaning.specs.State.{World}
use Rattle.holders.specs.Owned.{IsBase, Apart, IsName, Active}
use Rattle.holders.specs.Becoming.{taken_in, times, none, LosesNone}
use Rattle.holders.specs.Territory.{Owner, AllOwners, OtherThan, Territory, StandsAt, Shape, RowAt, LeaveRow, NoBaseOf}

-- what isn't of calls from a level on
abbrev pub IsBelow : ℕ → Base → Type 0
IsBelow level (Standing l n) = l < level
IsBelow level (Waiting l node) = l < level
IsBelow level b = Unit {0}

-- What is a part's own: calls above a level, and in the one at the level these places, and these nodes, at which values wait.
pub record Region : Type 0 where
  pub level : ℕ
  pub places : ℕ → Bool
  pub nodes : ℕ → Bool

-- places and temporaries of others
abbrev pub IsOutside : Region → Base → Type 0
IsOutside r (Standing l n) = (l < r.level) ⊎ ((l ≡ r.level) × (r.places n ≡ true → ⊥))
IsOutside r (Waiting l node) = (l < r.level) ⊎ ((l ≡ r.level) × (r.nodes node ≡ true → ⊥))
IsOutside r b = Unit {0}

-- what is outside of the one is outside of the other
pub record Wider (r inner : Region) : Type 0 where
  pub outside : (b : Base) → IsOutside r b → IsOutside inner b
  pub level : inner.level ≡ r.level
  pub places : (n : ℕ) → inner.places n ≡ true → r.places n ≡ true

-- What a part leaves, but for cells that it was given.
pub record Passes (r : Region) (gs : List Owner) (old : List ℕ) (world after : World) : Type 0 where
  pub bases : (b : Base) (x : Value) → IsBase world b x → IsOutside r b → NoBaseOf b gs → Apart b old → IsBase after b x
  pub parts : (l : Location) (v : Value) → StandsAt world l v → IsOutside r l.base → OtherThan l gs → Apart l.base old → StandsAt after l v
  pub rows : (l : Location) (shape : Shape) → RowAt world l shape → IsOutside r l.base → LeaveRow l gs → Apart l.base old → RowAt after l shape
  pub grows : taken_in world ≤ taken_in after
  pub hand : length after.hand ≡ length world.hand
  pub names : (l n : ℕ) (to : Location) → IsName world.frames l n to → (l < r.level) ⊎ ((l ≡ r.level) × (r.places n ≡ true → ⊥)) → IsName after.frames l n to
  pub active : (l first places : ℕ) (nodes : List ℕ) → l < r.level → Active world.frames l first places nodes → Active after.frames l first places nodes
  pub count : length after.frames ≡ length world.frames

abbrev pub AreOwn : Region → List Owner → Type 0
AreOwn r ms = AllOwners (λ m. IsOutside r m.at.base → ⊥) ms

-- The part has these cells of its own then, and those that it was given; blocks of theirs were there, or were given with a value, or are new.
pub record RunsWith (comes goes : ℕ → ℕ) (r : Region) (ms gs : List Owner) (given old : List ℕ) (world after : World) : Type 0 where
  pub territory : Territory (ms ++ gs) after
  pub own : AreOwn r ms
  pub came : (k : ℕ) → Member k territory.blocks → Member k old ⊎ (Member k given ⊎ (taken_in world ≤ k))
  pub passes : Passes r gs (given ++ old) world after
  pub loses : LosesNone (λ k. comes k + times k old) (λ k. times k territory.blocks + goes k) world after

abbrev pub Runs : Region → (ms gs : List Owner) → (given old : List ℕ) → (world after : World) → Type 0
Runs r ms gs given old world after = RunsWith (λ k. times k given) none r ms gs given old world after
