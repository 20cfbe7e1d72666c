-- The state of a run.
use Rattle.std.specs.Prelude.{ℕ, ◌-◌, ◌%◌, nat_eq, nat_lt, Bool, true, false, ◌&&◌, if◌then◌else◌, List, [], ◌∷◌, ◌++◌, length, take, drop}
use Rattle.std.specs.Prelude.{map, Option, Some, None, option_map, slice_get, slice_set}
use Rattle.arc_base.specs.Event.{Event}
use Rattle.arc_base.specs.Behaviour.{Live, no_objects}
use Rattle.arc_base.specs.BigStep.{Meter}
use Rattle.nim_types.specs.Types.{Ty}
use Rattle.nim_meaning.specs.Values.{Value, Parts, Handle, Fixed, Gone, Vacant, Values, More, Nil, nothing, nth, count, parts_of, text_in, part, put_part}
use Rattle.nim_meaning.specs.Values.{is_full}
use Rattle.nim_meaning.specs.Values.{Base, Standing, Waiting}
use Rattle.nim_meaning.specs.Values.{InBlock, InHand}
use Rattle.nim_meaning.specs.Values.{InException, Made, Location, Slot, Holds, value_in}
use Rattle.nim_meaning.specs.Heap.{Contents, Characters, Elements, Object, Heap, block_at, Block, with_contents, heap_of}
use Rattle.nim_meaning.specs.Ways.{Point}

-- the value of a node that waits in a call, for its operation or for the end of its statement
pub record Temporary : Type 0 where
  pub node : ℕ
  pub slot : Slot

-- An active call. Its places have numbers that follow one another from the first; one that isn't declared yet has no slot, and one without hooks
-- keeps it when its scope is over, which nobody sees. Its temporaries, the last one first, and the exceptions that it handles, the innermost first.
pub record Frame : Type 0 where
  pub first : ℕ
  pub slots : List (Option Slot)
  pub temporaries : List Temporary
  pub handling : List ℕ

-- an exception: its type, its message, and how many own it: a handler each, and the flight
pub record Exception : Type 0 where
  pub of : Ty
  pub message : Value
  pub owners : ℕ

-- what is owned and has an identity: a block, by its place among all that were taken, or an object with hooks of its own
pub data Identity : Type 0 where
  OfBlock : (block : ℕ) → Identity
  OfResource : (number : ℕ) → Identity

-- What happened to owned values: a block of a size was taken or given back; an identity was born, or ended.
pub data Happening : Type 0 where
  Took : (size : ℕ) → Happening
  Gave : (size : ℕ) → Happening
  Born : (identity : Identity) → Happening
  Ended : (identity : Identity) → Happening

-- All that a run may change: the frames of the start code and of the active calls, by their levels; the values under way, the last one last;
-- the heap; how many objects with hooks of their own were born; exceptions by number, and those that are on their way; the objects without holders
-- that wait to be ended, the last one first, and how many destroys run around; the input left; and what happened so far, the last first. The ref types
-- whose objects are counted don't change.
pub record World : Type 0 where
  pub frames : List Frame
  pub hand : List Value
  pub heap : Heap
  pub exceptions : List (Option Exception)
  pub flight : List ℕ
  pub pending : List ℕ
  pub destroying : ℕ
  pub born : ℕ
  pub input : List ℕ
  pub history : List Happening
  pub refs : List Ty

-- the units left, the events and the work; the world; and the points that the running call came by, the last one first
pub record State : Type 0 where
  pub meter : Meter Event
  pub world : World
  pub trail : List Point

-- the objects that are live: a program has none yet
abbrev pub live : World → Live
live world = no_objects

-- ---- reading and writing

abbrev pub no_frame : Frame
no_frame = record { first = 0; slots = []; temporaries = []; handling = [] }

abbrev pub frame_in : Option Frame → Frame
frame_in None = no_frame
frame_in (Some frame) = frame

abbrev pub frame_at : World → (level : ℕ) → Frame
frame_at world level = frame_in (slice_get world.frames level)

abbrev pub with_frame_at : World → (level : ℕ) → Frame → World
with_frame_at world level frame = record world { frames = slice_set world.frames level frame }

abbrev pub joined : Option (Option Slot) → Option Slot
joined None = None
joined (Some slot) = slot

-- the slot of a place, by its number; None of one that isn't declared yet
abbrev pub slot_of : Frame → (number : ℕ) → Option Slot
slot_of frame number = joined (slice_get frame.slots (number - frame.first))

abbrev pub slot_at : World → (level number : ℕ) → Option Slot
slot_at world level number = slot_of (frame_at world level) number

abbrev pub with_slot_of : Frame → (number : ℕ) → Option Slot → Frame
with_slot_of frame number slot = record frame { slots = slice_set frame.slots (number - frame.first) slot }

abbrev pub with_slot : World → (level number : ℕ) → Option Slot → World
with_slot world level number slot = with_frame_at world level (with_slot_of (frame_at world level) number slot)

-- ---- temporaries

abbrev pub temporary_in : List Temporary → (node : ℕ) → Option Slot
temporary_in [] node = None
temporary_in (t ∷ ts) node = if nat_eq t.node node then Some t.slot else temporary_in ts node

abbrev pub with_temporary_in : List Temporary → (node : ℕ) → Slot → List Temporary
with_temporary_in [] node slot = []
with_temporary_in (t ∷ ts) node slot = if nat_eq t.node node then record t { slot = slot } ∷ ts else t ∷ with_temporary_in ts node slot

abbrev pub temporary_at : World → (level node : ℕ) → Option Slot
temporary_at world level node = temporary_in (frame_at world level).temporaries node

abbrev pub with_temporary : World → (level node : ℕ) → Slot → World
with_temporary world level node slot =
    with_frame_at world level (record (frame_at world level) { temporaries = with_temporary_in (frame_at world level).temporaries node slot })

abbrev pub without_temporary_in : List Temporary → (node : ℕ) → List Temporary
without_temporary_in [] node = []
without_temporary_in (t ∷ ts) node = if nat_eq t.node node then ts else t ∷ without_temporary_in ts node

abbrev pub with_temporaries : World → (level : ℕ) → List Temporary → World
with_temporaries world level ts = with_frame_at world level (record (frame_at world level) { temporaries = ts })

-- a value waits at a node, and doesn't any more
abbrev pub with_one_waiting : World → (level node : ℕ) → Slot → World
with_one_waiting world level node slot =
    with_temporaries world level (record { node = node; slot = slot } ∷ without_temporary_in (frame_at world level).temporaries node)

abbrev pub with_none_waiting : World → (level node : ℕ) → World
with_none_waiting world level node = with_temporaries world level (without_temporary_in (frame_at world level).temporaries node)

-- ---- values under way, and the input

abbrev pub pushed : World → Value → World
pushed world v = record world { hand = world.hand ++ v ∷ [] }

abbrev pub popped : World → World
popped world = record world { hand = take (length world.hand - 1) world.hand }

-- what is left of the input: of its numbers, which are any, each is read as a byte, modulo 256
abbrev pub bytes_left : World → List ℕ
bytes_left world = map (λ n. n % 256) world.input

abbrev pub reading_on : World → (bytes : ℕ) → World
reading_on world n = record world { input = drop n world.input }

-- ---- values at locations

abbrev pub held : Option Slot → Value
held None = nothing
held (Some slot) = value_in slot

-- what waits, or doesn't any more
abbrev pub awaited : Option Slot → Value
awaited None = Vacant
awaited (Some slot) = value_in slot

abbrev pub object_in : Contents → Value
object_in (Characters text) = Fixed text
object_in (Elements all) = Parts all
object_in (Object of v) = v

abbrev pub contents_value : Option Block → Value
contents_value None = Vacant
contents_value (Some block) = object_in block.contents

abbrev pub message_of : Option (Option Exception) → Value
message_of None = Vacant
message_of (Some None) = Vacant
message_of (Some (Some exception)) = exception.message

abbrev pub hand_value : Option Value → Value
hand_value None = Vacant
hand_value (Some v) = v

-- the whole value where a location begins
abbrev pub whole_at : World → Base → Value
whole_at world (Standing level number) = held (slot_at world level number)
whole_at world (Waiting level node) = awaited (temporary_at world level node)
whole_at world (InBlock k) = contents_value (block_at world.heap k)
whole_at world (InHand i) = hand_value (slice_get world.hand i)
whole_at world (InException i) = Parts (More (message_of (slice_get world.exceptions i)) Nil)
whole_at world (Made v) = v

-- the value at a location
abbrev pub load : World → Location → Value
load world location = part (whole_at world location.base) location.path

-- the characters of a text, and the elements of a sequence
abbrev pub text_of : World → Value → List ℕ
text_of world (Handle n (Some k)) = text_in (contents_value (block_at world.heap k))
text_of world v = text_in v

abbrev pub elements_of : World → Value → Values
elements_of world (Handle n (Some k)) = parts_of (contents_value (block_at world.heap k))
elements_of world v = parts_of v

-- ---- what is gone

-- What is asked of the contents of a block. It isn't so of one that was given back; and a block that was never taken stands nowhere.
abbrev pub is_so_in : (Contents → Bool) → Option (Option Block) → Bool
is_so_in asked None = true
is_so_in asked (Some None) = false
is_so_in asked (Some (Some block)) = asked block.contents

-- there are so many characters or elements
abbrev pub has_as_many : ℕ → Contents → Bool
has_as_many n (Characters text) = nat_eq (length text) n
has_as_many n (Elements all) = nat_eq (count all) n
has_as_many n (Object of v) = false

-- the character or element where a path begins is one of them
abbrev pub has_item : (path : List ℕ) → Contents → Bool
has_item [] contents = true
has_item (i ∷ path) (Characters text) = nat_lt i (length text)
has_item (i ∷ path) (Elements all) = nat_lt i (count all)
has_item (i ∷ path) (Object of v) = true

-- a block wasn't given back
abbrev pub is_live : World → ℕ → Bool
is_live world k = is_so_in (λ contents. true) (slice_get world.heap.blocks k)

-- something stands there; and what a text or a sequence has in its block is there, and as long as it
abbrev pub is_whole : World → Value → Bool
is_whole world (Handle n (Some k)) = is_so_in (has_as_many n) (slice_get world.heap.blocks k)
is_whole world (Gone v final) = false
is_whole world Vacant = false
is_whole world v = true

abbrev pub leads_from : World → Base → (path : List ℕ) → Bool
leads_from world (InBlock k) path = is_so_in (has_item path) (slice_get world.heap.blocks k)
leads_from world base path = true

-- a location leads to what is there: a block that it leads into wasn't given back, and has the element
abbrev pub is_there : World → Location → Bool
is_there world location = leads_from world location.base location.path

-- and so does what stands at it
abbrev pub is_seen : World → Location → Bool
is_seen world location = is_there world location && is_whole world (load world location)

-- and all of it is there
abbrev pub is_full_at : World → Location → Bool
is_full_at world location = is_seen world location && is_full (load world location)

abbrev pub new_contents : Contents → Value → Contents
new_contents (Characters text) v = Characters (text_in v)
new_contents (Elements all) v = Elements (parts_of v)
new_contents (Object of old) v = Object of v

abbrev pub with_value_in : Heap → ℕ → Option Block → Value → Heap
with_value_in heap k None v = heap
with_value_in heap k (Some block) v = with_contents heap k (new_contents block.contents v)

abbrev pub with_message : Value → Option Exception → Option Exception
with_message v exception = option_map (λ (x : Exception). record x { message = v }) exception

abbrev pub with_message_at : List (Option Exception) → ℕ → Option (Option Exception) → Value → List (Option Exception)
with_message_at exceptions i None v = exceptions
with_message_at exceptions i (Some exception) v = slice_set exceptions i (with_message v exception)

-- what a place holds is its own from then on
abbrev pub stored : World → Base → Value → World
stored world (Standing level number) v = with_slot world level number (Some (Holds v))
stored world (Waiting level node) v = with_temporary world level node (Holds v)
stored world (InBlock k) v = record world { heap = with_value_in world.heap k (block_at world.heap k) v }
stored world (InHand i) v = record world { hand = slice_set world.hand i v }
stored world (InException i) v = record world { exceptions = with_message_at world.exceptions i (slice_get world.exceptions i) (nth (parts_of v) 0) }
stored world (Made old) v = world

-- the world with another value at a location
abbrev pub store : World → Location → Value → World
store world location v = stored world location.base (put_part (whole_at world location.base) location.path v)

-- with the frame of one more call
abbrev pub with_frame : World → Frame → World
with_frame world frame = record world { frames = world.frames ++ frame ∷ [] }

-- with the frames below a level alone
abbrev pub down_to : ℕ → World → World
down_to level world = record world { frames = take level world.frames }

-- ---- the first state

-- nothing happened yet
abbrev pub world_of : (frames : List Frame) (heap : ℕ) (input : List ℕ) → World
world_of frames heap input = record {
  frames = frames;
  hand = [];
  heap = heap_of heap;
  exceptions = [];
  flight = [];
  pending = [];
  destroying = 0;
  born = 0;
  input = input;
  history = [];
  refs = [];
}
