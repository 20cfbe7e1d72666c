-- Where paths lead: to what stands in cells, and to what is read alone.
use Rattle.std.specs.Prelude.{◌≡◌, ℕ, Bool, false, List, [], ◌∷◌, ◌++◌}
use Rattle.nim_types.specs.Forms.{Form, plain, block, elements, row, parts, Forms}
use Rattle.nim_meaning.specs.Values.{Value, Standing, Waiting, Made, Location, at_base}
use Rattle.nim_meaning.specs.State.{World}
use Rattle.nim_meaning.specs.Aims.{Aim, Root, Value_of, PartOf, ItemOf, ObjectOf, Waits_at}
use Rattle.holders.specs.Owned.{From, Constant, Has, IsName, PartForm}
use Rattle.holders.specs.Territory.{Owner, Among}
use Rattle.holders.specs.Working.{number}
use Rattle.holders.specs.Ways.{Step, to_field, to_element, Chain, Goes}

-- From a cell by its position, by these steps, or to a constant, which has none; where it may be written as well, it is no constant.
pub data Found (os : List Owner) (world : World) : (written : Bool) → (root : ℕ) → List Step → Form → Location → Type 0 where
  in_cell : {b : Bool} {steps : List Step} {f : Form} {m : Location} (c : Chain os world (record { form = f; at = m })) → Goes steps c.path →
      Found os world b (number c.at) steps f m
  to_be_read : {root : ℕ} {steps : List Step} {f : Form} {m : Location} {u v constant : Value} → m.base ≡ Made constant → From world m u v →
      Has world Constant f v [] →
      Found os world false root steps f m

-- what a sequence, an array and a text have as elements
pub data ItemForm : Form → Form → Type 0 where
  of_sequence : {f : Form} → ItemForm (elements f) f
  of_array : {n : ℕ} {f : Form} → ItemForm (row n f) f
  of_text : ItemForm block plain

-- A place of a call, at a position: it has a cell of its own, or is another name for one, or for a constant or a part of one.
pub data PlaceOf (os : List Owner) (world : World) (level n : ℕ) (f : Form) : (written : Bool) → (root : ℕ) → Type 0 where
  own_place : {b : Bool} (i : Among os (record { form = f; at = at_base (Standing level n) })) → PlaceOf os world level n f b (number i)
  a_name_of : {b : Bool} {l : Location} → IsName world.frames level n l → (i : Among os (record { form = f; at = l })) →
      PlaceOf os world level n f b (number i)
  of_constant : {root : ℕ} {l : Location} {u v constant : Value} → IsName world.frames level n l → l.base ≡ Made constant → From world l u v →
      Has world Constant f v [] → PlaceOf os world level n f false root

-- paths whose indexes are evaluated, by the forms of what they lead to
pub data AimsAt (os : List Owner) (world : World) : (written : Bool) → (root : ℕ) → Aim → Form → Type 0 where
  at_root : {b : Bool} {root level n : ℕ} {f : Form} → PlaceOf os world level n f b root → AimsAt os world b root (Root (Standing level n)) f
  at_constant : {root : ℕ} {v : Value} {f : Form} → Has world Constant f v [] → AimsAt os world false root (Root (Made v)) f
  at_value : {root : ℕ} {v : Value} {f : Form} → Has world Constant f v [] → AimsAt os world false root (Value_of v) f
  at_waiting : {b : Bool} {level node : ℕ} {f : Form} (i : Among os (record { form = f; at = at_base (Waiting level node) })) →
      AimsAt os world b (number i) (Waits_at level node) f
  at_field : {b : Bool} {root : ℕ} {aim : Aim} {i : ℕ} {fs : Forms} {f : Form} → AimsAt os world b root aim (parts fs) → PartForm fs i f →
      AimsAt os world b root (PartOf aim i) f
  at_element : {b : Bool} {root : ℕ} {aim : Aim} {z : _} {f g : Form} → AimsAt os world b root aim f → ItemForm f g → AimsAt os world b root (ItemOf aim z) g

-- the steps of a path
abbrev pub steps_of : Aim → List Step
steps_of (PartOf aim i) = steps_of aim ++ to_field i ∷ []
steps_of (ItemOf aim z) = steps_of aim ++ to_element ∷ []
steps_of (ObjectOf aim) = steps_of aim
steps_of aim = []

-- ---- what is read there

-- where it may be read, and what it is
pub record Read (f : Form) (l : Location) (world : World) : Type 0 where
  pub stands_in : Value
  pub value : Value
  pub blocks : List ℕ
  pub from : From world l stands_in value
  pub has : Has world Constant f value blocks

-- the bits at a location
pub record Fetched (f : Form) (world : World) (x : Value) (after : World) : Type 0 where
  pub same : after ≡ world
  pub blocks : List ℕ
  pub has : Has world Constant f x blocks
