-- How far a part of a body has come, since a start.
use Rattle.std.specs.Prelude.{◌≡◌, ◌≤◌, ◌⊎◌, ℕ, List, [], ◌++◌}
use Rattle.nim_types.specs.Forms.{Form}
use Rattle.nim_meaning.specs.Values.{Value, Waiting}
use Rattle.nim_meaning.specs.Marks.{Member}
use Rattle.nim_meaning.specs.State.{World}
use Rattle.holders.specs.Owned.{IsBase, Active}
use Rattle.holders.specs.Becoming.{taken_in, times, none}
use Rattle.holders.specs.Territory.{Owner}
use Rattle.holders.specs.Handing.{UnderWay}
use Rattle.holders.specs.Groups.{without_node}
use Rattle.holders.specs.Running.{Region, RunsWith}

-- its own cells and those that it was given, the frame of the call, the nodes at which values wait, and how often a block is under way
pub record StageWith (out : ℕ → ℕ) (r : Region) (ms gs : List Owner) (first places : ℕ) (nodes old : List ℕ) (start now : World) : Type 0 where
  pub runs : RunsWith none out r ms gs [] old start now
  pub active : Active now.frames r.level first places nodes

-- nothing is under way
abbrev pub Stage : Region → (ms gs : List Owner) → (first places : ℕ) → (nodes old : List ℕ) → (start now : World) → Type 0
Stage r ms gs first places nodes old start now = StageWith none r ms gs first places nodes old start now

-- and a value is under way
pub record Holding (f : Form) (x : Value) (r : Region) (ms gs : List Owner) (first places : ℕ) (nodes old : List ℕ) (start now : World) : Type 0 where
  pub out : ℕ → ℕ
  pub stage : StageWith out r ms gs first places nodes old start now
  pub under : UnderWay f x (ms ++ gs) stage.runs.territory.blocks now
  pub came : (k : ℕ) → Member k under.given → Member k old ⊎ (taken_in start ≤ k)
  pub out_is : (k : ℕ) → times k under.given ≡ out k

-- what waited was taken up
pub record Up (f : Form) (node : ℕ) (r : Region) (ms gs : List Owner) (first places : ℕ) (nodes old : List ℕ) (start now after : World) : Type 0 where
  pub value : Value
  pub base : IsBase now (Waiting r.level node) value
  pub holding : Holding f value r ms gs first places (without_node nodes node) old start after
