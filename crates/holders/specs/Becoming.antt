-- A location gets another value of its form.
use Rattle.std.specs.Prelude.{◌≡◌, ℕ, ◌+◌, ◌≤◌, ◌⊎◌, List, [], ◌∷◌, length}
use Rattle.nim_types.specs.Forms.{Form}
use Rattle.nim_meaning.specs.Values.{Value, Base, Location, put_part}
use Rattle.nim_meaning.specs.Marks.{Member, Distinct}
use Rattle.nim_meaning.specs.State.{World}
use Rattle.nim_meaning.specs.Heap.{block_at}
use Rattle.nim_meaning.specs.Kept.{one_if_same, one_if_there}
use Rattle.holders.specs.Holders.{held_in_world}
use Rattle.holders.specs.Owned.{IsBase, Full, Has, Elsewhere, Stays}

-- how many blocks were taken so far
abbrev pub taken_in : World → ℕ
taken_in world = length world.heap.blocks

-- how often a block is among some
abbrev pub times : (block : ℕ) → List ℕ → ℕ
times k [] = 0
times k (j ∷ bs) = one_if_same j k + times k bs

abbrev pub live_at : World → (block : ℕ) → ℕ
live_at world k = one_if_there (block_at world.heap k)

abbrev pub none : ℕ → ℕ
none k = 0

-- No block is lost: each that was had, or is new, is had now, or was given back.
abbrev pub LosesNone : (had has : (block : ℕ) → ℕ) → (world after : World) → Type 0
LosesNone had has world after = (k : ℕ) → live_at after k + had k ≡ live_at world k + has k

-- Its blocks are some of the old ones, of those that were given with a value, and new ones; some of these went elsewhere. All else is as it was, and as
-- many values are under way.
pub record BecomesWith (goes : ℕ → ℕ) (f : Form) (l : Location) (w : Value) (given old : List ℕ) (world after : World) : Type 0 where
  pub now : Value
  pub blocks : List ℕ
  pub has : Has after Full f now blocks
  pub distinct : Distinct blocks
  pub came : (k : ℕ) → Member k blocks → Member k old ⊎ (Member k given ⊎ (taken_in world ≤ k))
  pub grows : taken_in world ≤ taken_in after
  pub loses : LosesNone (λ k. times k given + times k old) (λ k. times k blocks + goes k) world after
  pub is : IsBase after l.base (put_part w l.path now)
  pub elsewhere : Elsewhere world after l.base old
  pub stays : Stays world after

abbrev pub Becomes : Form → (l : Location) → (w : Value) → (given old : List ℕ) → (world after : World) → Type 0
Becomes f l w given old world after = BecomesWith none f l w given old world after

-- A value comes to be, which nobody has yet. All else is as it was.
pub record Gives (f : Form) (x : Value) (given : List ℕ) (world after : World) : Type 0 where
  pub blocks : List ℕ
  pub has : Has after Full f x blocks
  pub distinct : Distinct blocks
  pub came : (k : ℕ) → Member k blocks → Member k given ⊎ (taken_in world ≤ k)
  pub loses : LosesNone (λ k. times k given) (λ k. times k blocks) world after
  pub grows : taken_in world ≤ taken_in after
  pub elsewhere : (b : Base) (y : Value) → IsBase world b y → IsBase after b y
  pub stays : Stays world after

-- the blocks given with a value are no others
abbrev pub Strange : List ℕ → List ℕ → Type 0
Strange given bs = (k : ℕ) → Member k given → Member k bs → ⊥

-- ---- holders

-- each live block has one holder, with whoever else holds blocks
abbrev pub HeldOnce : (others : ℕ → ℕ) → World → Type 0
HeldOnce others world = (k : ℕ) → held_in_world k world + others k ≡ one_if_there (block_at world.heap k)

-- and so it is afterwards, where something comes from others, and something goes to them
abbrev pub KeepsHolders : (comes goes : ℕ → ℕ) → (world after : World) → Type 0
KeepsHolders comes goes world after = (others : ℕ → ℕ) → HeldOnce (λ k. comes k + others k) world → HeldOnce (λ k. goes k + others k) after

-- it is another value then, and each block has one holder
abbrev pub Turns : (comes goes : ℕ → ℕ) → Form → (l : Location) → (w : Value) → (given old : List ℕ) → (world after : World) → Type 0
Turns comes goes f l w given old world after = Becomes f l w given old world after × KeepsHolders comes goes world after
