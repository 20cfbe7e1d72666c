-- How places are found, read and written.
use Rattle.std.specs.Prelude.{ℕ, ℤ, unsigned_abs, nat_eq, Bool, true, false, List, [], Option, Some, None}
use Rattle.nim_plan.specs.declared.plan.Act.{Act}
use Rattle.nim_program.specs.Traps.{IndexOutOfBounds, NilDereference, LengthChanged}
use Rattle.nim_program.specs.Ints.{inside}
use Rattle.nim_program.specs.declared.operation.Use.{Use}
use Rattle.nim_program.specs.declared.operation.Use.TheVariants.{Owned, Given, Lent, Looked}
use Rattle.nim_types.specs.Forms.{Form, block, wrapped}
use Rattle.nim_meaning.specs.Values.{Value, Fixed, Ref, nothing, length_of, bytes, Base, Standing, Waiting, InBlock, Made, Location, at_base, blank}
pub use Rattle.nim_meaning.specs.Values.{item_of}
use Rattle.nim_meaning.specs.Values.{deeper, nowhere, through}
use Rattle.nim_meaning.specs.State.{World, slot_at, temporary_at, load}
use Rattle.nim_meaning.specs.Values.{Slot, Holds}
use Rattle.nim_meaning.specs.Deeds.{Deed, Gives, Waits, does, give, ◌>>=◌, ◌>>◌, branch, costs, looks, unless_gone, sees, takes, sets, stop}
use Rattle.nim_meaning.specs.Lifted.{fresh_text, copied}

-- ---- paths

abbrev pub place_at : (level number : ℕ) → Location
place_at level number = at_base (Standing level number)

abbrev pub through_slot : Base → Option Slot → Location
through_slot base None = at_base base
through_slot base (Some slot) = through (at_base base) slot

-- where a path begins: a name that stands for a location leads to it
abbrev pub root_of : Base → World → Location
root_of (Standing level number) world = through_slot (Standing level number) (slot_at world level number)
root_of (Waiting level node) world = through_slot (Waiting level node) (temporary_at world level node)
root_of base world = at_base base

-- the object of a ref; nil has none
abbrev pub object_of : Value → Deed Location
object_of (Ref (Some k)) = Gives (record { base = InBlock k; path = []; through = Some k })
object_of (Ref None) = stop NilDereference
object_of v = Gives nowhere

-- The steps of a look-up, each a node of the path and a work of one, but for a dereference, which is no node: where it begins, a field or a
-- part of what is there, an element, and the object of a ref.
abbrev pub rooted : Base → Deed Location
rooted base = costs 1 (looks (λ world. give (root_of base world)))

abbrev pub to_part : Location → ℕ → Deed Location
to_part location i = costs 1 (give (deeper location i))

-- The characters of a text that nobody owns are in the program: a place that holds such a text, which none does, has none of them.
abbrev pub has_items : Value → Base → Bool
has_items (Fixed text) (Made v) = true
has_items (Fixed text) base = false
has_items v base = true

abbrev pub to_one : Value → Location → ℕ → Deed Location
to_one v location i = unless_gone (has_items v location.base) (give (item_of v location i))

abbrev pub to_item : Location → ℤ → Deed Location
to_item location z =
    costs 1 (sees location (λ world v. branch (inside z (length_of v)) (to_one v location (unsigned_abs z)) (stop IndexOutOfBounds)))

abbrev pub to_object : Location → Deed Location
to_object location = looks (λ world. object_of (load world location))

-- where a fresh value stands: nobody owns a plain one, and its node is counted already
abbrev pub made : Value → Deed Location
made v = give (at_base (Made v))

-- ---- values at places

-- What comes with refs, hooks and exceptions. A program that has any of it is refused before it runs, so nobody sees this value.
abbrev pub from_heap : Deed Value
from_heap = give nothing

-- the bits at a location
abbrev pub fetched : Location → Deed Value
fetched location = takes location (λ world v. costs (bytes v) (give v))

-- The elements of what stands at a location: how many there are, where one is, and what it is; and that they are still as many.
abbrev pub length_at : Location → Deed ℕ
length_at location = sees location (λ world v. give (length_of v))

abbrev pub item_at : Location → ℕ → Deed Location
item_at location i = sees location (λ world v. to_one v location i)

abbrev pub fetched_item : Location → ℕ → Deed Value
fetched_item location i = sees location (λ world v. fetched (item_of v location i))

abbrev pub as_long : Location → ℕ → Deed (Unit {0})
as_long location n = sees location (λ world v. branch (nat_eq (length_of v) n) (give tt) (stop LengthChanged))

-- What the value of a node is for, and where it waits if it does: in the call at a level, at the node.
pub record Destination : Type 0 where
  pub how : Use
  pub level : ℕ
  pub node : ℕ

-- A value that is somebody's own is handed on, or waits for its operation or for the end of its statement: its bits are moved to where it waits.
abbrev pub kept_for : Use → (level node : ℕ) → Value → Deed Value
kept_for Owned level node v = give v
kept_for Given level node v = give v
kept_for how level node v = costs (bytes v) (does (Waits level node (Holds v)) >> give v)

abbrev pub kept : Destination → Value → Deed Value
kept to v = kept_for to.how to.level to.node v

-- a value that an operation gives, or a call: no literal
abbrev pub kept_if : (hooked : Bool) → Destination → Value → Deed Value
kept_if false to v = give v
kept_if true to v = kept to v

-- What an operation looks at: a text, as it is. Nobody looks into another value with blocks that isn't at a place, and a blank one stands for it.
abbrev pub looked_as : Form → Value → Value
looked_as block v = v
looked_as (wrapped f) v = looked_as f v
looked_as f v = blank f

abbrev pub looked : Form → Location → Deed Value
looked f location = takes location (λ world v. costs (bytes v) (give (looked_as f v)))

-- all else is a copy
abbrev pub copied_for : Use → Form → Destination → Location → Deed Value
copied_for Looked f to location = looked f location
copied_for how f to location = copied f location >>= kept to

-- The value of a path that is read, as its use asks. One with hooks is copied; moves and borrows, which the plan may say of the site, come later.
abbrev pub taken_by : (hooked : Bool) → Form → Destination → Option Act → Location → Deed Value
taken_by false f to act location = fetched location
taken_by true f to act location = copied_for to.how f to location

-- a literal text is nobody's where it is read, and somebody's own elsewhere
abbrev pub text_for : Use → Destination → List ℕ → Deed Value
text_for Lent to t = give (Fixed t)
text_for Looked to t = give (Fixed t)
text_for how to t = fresh_text t >>= kept to

-- the value of a literal, as its use asks
abbrev pub made_by : (hooked : Bool) → Destination → Value → Deed Value
made_by false to v = give v
made_by true to (Fixed t) = text_for to.how to t
made_by true to v = kept to v

-- a constant is never changed
abbrev pub may_change : Base → Bool
may_change (Made v) = false
may_change base = true

abbrev pub changes : Location → Value → Deed (Unit {0})
changes location v = unless_gone (may_change location.base) (sets location v)

-- a value becomes that at a location, where one without hooks stood
abbrev pub put : Location → Value → Deed Value
put location v = costs (bytes v) (changes location v >> give nothing)

-- the same in place of a value that is there, as in each place of a program that is assigned to
abbrev pub put_over : Location → Value → Deed Value
put_over location v = sees location (λ world old. put location v)

-- the value at a location is taken, and another one put in its place
abbrev pub exchanged : Location → Value → Deed Value
exchanged location v = costs (bytes v) (takes location (λ world old. changes location v >> give old))
