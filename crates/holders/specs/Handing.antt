-- Values that nobody in a territory has: they are under way, from one place to another.
use Rattle.std.specs.Prelude.{◌≡◌, ◌≤◌, ◌⊎◌, ℕ, List, []}
use Rattle.nim_types.specs.Forms.{Form}
use Rattle.nim_meaning.specs.Values.{Value}
use Rattle.nim_meaning.specs.Marks.{Member, Distinct}
use Rattle.nim_meaning.specs.State.{World}
use Rattle.holders.specs.Owned.{Full, Has}
use Rattle.holders.specs.Becoming.{taken_in, times, Strange}
use Rattle.holders.specs.Territory.{Owner, ClearOf, MovesWith}

pub record UnderWay (f : Form) (x : Value) (os : List Owner) (blocks : List ℕ) (world : World) : Type 0 where
  pub given : List ℕ
  pub has : Has world Full f x given
  pub distinct : Distinct given
  pub strange : Strange given blocks
  pub clear : ClearOf given os

-- a value comes to be, or out of a cell: its blocks are some that were there, that were given with values, or new ones
pub record HandsOut (f : Form) (os : List Owner) (given old : List ℕ) (world : World) (x : Value) (after : World) : Type 0 where
  pub goes : ℕ → ℕ
  pub moves : MovesWith (λ k. times k given) goes os [] old world after
  pub value : UnderWay f x os moves.territory.blocks after
  pub came : (k : ℕ) → Member k value.given → Member k old ⊎ (Member k given ⊎ (taken_in world ≤ k))
  pub goes_is : (k : ℕ) → times k value.given ≡ goes k
