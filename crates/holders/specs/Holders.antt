-- Who holds blocks. A block that is live has one holder: a handle in what a place or a temporary holds, in a value under way, in the contents of
-- another block, or in the message of an exception. So what a text or a sequence is changes only by a statement that names it. Nothing that is dead is
-- held.
use Rattle.std.specs.Prelude.{ℕ, ◌+◌, List, [], ◌∷◌, Option, Some, None}
use Rattle.nim_meaning.specs.Values.{Value, Number, Parts, Handle, Fixed, Ref, Resource, Gone, Vacant, Values, Nil, More, Slot, Holds, Stands, Lends}
use Rattle.nim_meaning.specs.Heap.{Contents, Characters, Elements, Object, Block}
use Rattle.nim_meaning.specs.State.{Temporary, Frame, Exception, World}
use Rattle.nim_meaning.specs.Kept.{one_if_same}

-- how many handles of a block a value has
abbrev mutual
  pub held_by : (block : ℕ) → Value → ℕ
  held_by k (Number n) = 0
  held_by k (Parts all) = held_in k all
  held_by k (Handle n None) = 0
  held_by k (Handle n (Some j)) = one_if_same j k
  held_by k (Fixed text) = 0
  held_by k (Ref object) = 0
  held_by k (Resource all identity) = held_in k all
  held_by k (Gone v final) = 0
  held_by k Vacant = 0

  pub held_in : (block : ℕ) → Values → ℕ
  held_in k Nil = 0
  held_in k (More first rest) = held_by k first + held_in k rest

-- what stands for another place, or was lent, is held by that
abbrev pub held_at : (block : ℕ) → Option Slot → ℕ
held_at k None = 0
held_at k (Some (Holds v)) = held_by k v
held_at k (Some (Stands location)) = 0
held_at k (Some (Lends v from seen)) = 0

abbrev pub held_waiting : (block : ℕ) → Temporary → ℕ
held_waiting k t = held_at k (Some t.slot)

abbrev pub held_in_contents : (block : ℕ) → Contents → ℕ
held_in_contents k (Characters text) = 0
held_in_contents k (Elements all) = held_in k all
held_in_contents k (Object of v) = held_by k v

abbrev pub held_in_block : (block : ℕ) → Option Block → ℕ
held_in_block k None = 0
held_in_block k (Some block) = held_in_contents k block.contents

abbrev pub held_by_message : (block : ℕ) → Option Exception → ℕ
held_by_message k None = 0
held_by_message k (Some exception) = held_by k exception.message

abbrev pub total : {A : Type 0} → (A → ℕ) → List A → ℕ
total f [] = 0
total f (x ∷ xs) = f x + total f xs

abbrev pub held_in_frame : (block : ℕ) → Frame → ℕ
held_in_frame k frame = total (held_at k) frame.slots + total (held_waiting k) frame.temporaries

-- all holders in the world
abbrev pub held_in_world : (block : ℕ) → World → ℕ
held_in_world k world =
    total (held_in_frame k) world.frames
    + (total (held_by k) world.hand + (total (held_in_block k) world.heap.blocks + total (held_by_message k) world.exceptions))
