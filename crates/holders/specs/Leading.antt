-- What stands in a cell is a cell too, and what becomes of it becomes of the whole.
use Rattle.std.specs.Prelude.{ℕ, List}
use Rattle.nim_types.specs.Forms.{Form}
use Rattle.nim_meaning.specs.Values.{Value, Location}
use Rattle.nim_meaning.specs.Marks.{Member}
use Rattle.nim_meaning.specs.State.{World}
use Rattle.holders.specs.Owned.{Cell}
use Rattle.holders.specs.Becoming.{Strange, BecomesWith}

-- from a location to one in what stands there
pub record Leads (f : Form) (l : Location) (w : Value) (bs : List ℕ) (g : Form) (m : Location) (u : Value) (mine : List ℕ) (world : World) : Type 0 where
  pub within : (k : ℕ) → Member k mine → Member k bs
  pub outward : {goes : ℕ → ℕ} (given : List ℕ) (after : World) → Strange given bs → BecomesWith goes g m u given mine world after →
      BecomesWith goes f l w given bs world after
  -- a block that the part has no more isn't in the whole
  pub without : {goes : ℕ → ℕ} (given : List ℕ) (after : World) (far : Strange given bs) (b : BecomesWith goes g m u given mine world after) (k : ℕ) →
      Member k (outward given after far b).blocks → Member k mine → Member k b.blocks

-- a part of a cell
pub record PartOf (f : Form) (l : Location) (w : Value) (bs : List ℕ) (g : Form) (m : Location) (world : World) : Type 0 where
  pub stands_in : Value
  pub value : Value
  pub mine : List ℕ
  pub cell : Cell g m stands_in value mine world
  pub leads : Leads f l w bs g m stands_in mine world
