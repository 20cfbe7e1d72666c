-- The routines by which a text gets more characters or another length, and by which its block is given back.
use Rattle.std.specs.Prelude.{◌≡◌, ◌<◌, ◌≤◌, ℕ, ◌+◌, ◌-◌, ◌*◌, ◌^◌, Bool, true, false, List, [], ◌++◌, ◌∷◌, length, take, Option, Some, None, if◌then◌else◌}
use Rattle.arc_base.specs.declared.outside.Stream.TheVariants.{Err}
use Rattle.arc_base.specs.Event.{writes}
use Rattle.nim_program.specs.Traps.{OutOfMemory}
use Rattle.nim_meaning.specs.Heap.{Class, one_more, at_class}
use Rattle.nim_meaning.specs.OwnedRows.{text_to}
use Rattle.word_code.specs.Memory.{Memory, bytes_at}
use Rattle.word_code.specs.RoutineTable.{trap_line}
use Rattle.word_code.specs.Routines.{Routine}
use Rattle.heap_memory.specs.declared.numbers.TheConstants.{CONTENTS_KIND}
use Rattle.heap_memory.specs.declared.numbers.TheConstants.{MOVE_BYTE}
use Rattle.heap_memory.specs.declared.numbers.TheConstants.{APPEND, APPEND_LINES, JOIN, JOIN_LINES, RESIZE, RESIZE_LINES, ZERO_BYTE, RELEASE, RELEASE_LINES}
use Rattle.heap_memory.specs.HeapState.{Standing, Stands, with_block, IsHeap}
use Rattle.heap_memory.specs.HeapUse.{IsElsewhere}
use Rattle.heap_memory.specs.HeapRoutines.{class_of, IsBesideHeap}
use Rattle.heap_memory.specs.TextRoutines.{AreBytes}
use Rattle.heap_memory.specs.GrowRoutine.{Owned, Growing, place_of, room_of, holds_it, may_grow, IsPresent, MayGrow, classes_then, stands_then, kept_of}
use Rattle.heap_memory.specs.GrowRoutine.{NewBlock, new_growth, grow_work}

-- ---- the text in its block

abbrev pub with_owned : Option Owned → Stands → Stands
with_owned None stands = stands
with_owned (Some x) stands = with_block stands x.identity x.block

abbrev pub with_payload : Option Owned → List ℕ → Option Owned
with_payload None payload = None
with_payload (Some x) payload = Some (record x { block = record x.block { payload = payload } })

-- a new block of a text or a sequence
abbrev pub new_block : (class place : ℕ) → List ℕ → Standing
new_block class place payload = record { place = place; class = class; kind = CONTENTS_KIND; word = 0; payload = payload }

-- the block that it has behind a growth: the present one, or a new one
abbrev pub block_then : (enough : Bool) → Growing → (place : ℕ) → List ℕ → Option Owned
block_then true u place payload = with_payload u.present payload
block_then false u place payload = Some (record { identity = u.identity; block = new_block (class_of u.wanted) place payload })

abbrev pub classes_behind : (enough : Bool) → Growing → List Class
classes_behind true u = u.classes
classes_behind false u = classes_then u.present (at_class one_more (class_of u.wanted) u.classes)

abbrev pub stands_behind : (enough : Bool) → Growing → Option Owned → Stands
stands_behind true u now = with_owned now u.stands
stands_behind false u now = stands_then u.present (with_owned now u.stands)

-- Behind a growth its block stands at a place, has room for what was wanted, and begins with a text.
pub record IsFilled (enough : Bool) (at : ℕ) (u : Growing) (text : List ℕ) (other : Memory) (place : ℕ) : Type 0 where
  pub payload : List ℕ
  pub front : take (length text) payload ≡ text
  pub room : u.wanted ≤ room_of (block_then enough u place payload)
  pub there : place_of (block_then enough u place payload) ≡ place
  pub heap : IsHeap at (classes_behind enough u) (stands_behind enough u (block_then enough u place payload)) other

-- what it leaves of all else, or of all
abbrev pub GrowthLeaves : (grows : Bool) → (at : ℕ) → (m other : Memory) → Type 0
GrowthLeaves true at m other = IsBesideHeap at m other
GrowthLeaves false at m other = other ≡ m

-- ---- a text is put behind another

-- where the characters stand that come: beside the heap, or at the front of a block, which may be that of the text
pub data Source : Type 0 where
  Outside : (at : ℕ) (bytes : List ℕ) → Source
  Inside : (block : Owned) (count : ℕ) → Source

abbrev pub source_at : Source → ℕ
source_at (Outside at bytes) = at
source_at (Inside x count) = x.block.place

abbrev pub source_bytes : Source → List ℕ
source_bytes (Outside at bytes) = bytes
source_bytes (Inside x count) = take count x.block.payload

abbrev pub IsSource : (at : ℕ) → Growing → Memory → Source → Type 0
IsSource at u m (Outside a bytes) =
    AreBytes bytes × (a < 2 ^ 32) × (bytes_at m a (length bytes) ≡ Some bytes) × IsElsewhere at m a (length bytes)
IsSource at u m (Inside x count) =
    (u.stands x.identity ≡ Some x.block) × (count ≤ length x.block.payload) × AreBytes (take count x.block.payload)
    × ((y : Owned) → u.present ≡ Some y → x.identity ≡ y.identity → count ≤ u.kept)

-- the characters come behind as many of the present block as are in use, which is wanted to have room for both
pub record Appending : Type 0 where
  pub growth : Growing
  pub source : Source

abbrev pub appended : Appending → List ℕ
appended u = kept_of u.growth.present u.growth.kept ++ source_bytes u.source

pub record MayAppend (at : ℕ) (u : Appending) (m : Memory) : Type 0 where
  pub growth : MayGrow at u.growth m
  pub source : IsSource at u.growth m u.source
  pub wanted : u.growth.wanted ≡ u.growth.kept + length (source_bytes u.source)

abbrev pub appends : (at : ℕ) → Routine
appends at = record {
  number = APPEND;
  Use = Appending;
  takes = λ u. place_of u.growth.present ∷ u.growth.kept ∷ source_at u.source ∷ length (source_bytes u.source) ∷ [];
  may = λ u m. MayAppend at u m;
  shows = λ u. if may_grow u.growth then [] else writes Err (trap_line OutOfMemory);
  ends = λ u. if may_grow u.growth then None else Some 1;
  leaves = λ u m other. GrowthLeaves (may_grow u.growth) at m other;
  reads = λ u input. input;
  gives = λ u other place. IsFilled (holds_it u.growth.present u.growth.wanted) at u.growth (appended u) other place;
  lines = λ u. APPEND_LINES + (grow_work u.growth + MOVE_BYTE * length (source_bytes u.source));
}

-- ---- a text is made of two

pub record Joining : Type 0 where
  pub first : Source
  pub second : Source
  pub new : NewBlock

abbrev pub joined : Joining → List ℕ
joined u = source_bytes u.first ++ source_bytes u.second

abbrev pub joining_growth : Joining → Growing
joining_growth u = new_growth u.new (length (source_bytes u.first) + length (source_bytes u.second))

pub record MayJoin (at : ℕ) (u : Joining) (m : Memory) : Type 0 where
  pub growth : MayGrow at (joining_growth u) m
  pub first : IsSource at (joining_growth u) m u.first
  pub second : IsSource at (joining_growth u) m u.second

abbrev pub joins : (at : ℕ) → Routine
joins at = record {
  number = JOIN;
  Use = Joining;
  takes = λ u. source_at u.first ∷ length (source_bytes u.first) ∷ source_at u.second ∷ length (source_bytes u.second) ∷ [];
  may = λ u m. MayJoin at u m;
  shows = λ u. if may_grow (joining_growth u) then [] else writes Err (trap_line OutOfMemory);
  ends = λ u. if may_grow (joining_growth u) then None else Some 1;
  leaves = λ u m other. GrowthLeaves (may_grow (joining_growth u)) at m other;
  reads = λ u input. input;
  gives = λ u other place. IsFilled (holds_it None (joining_growth u).wanted) at (joining_growth u) (joined u) other place;
  lines = λ u. JOIN_LINES + (grow_work (joining_growth u) + MOVE_BYTE * (joining_growth u).wanted);
}

-- ---- a text gets another length

abbrev pub resizes : (at : ℕ) → Routine
resizes at = record {
  number = RESIZE;
  Use = Growing;
  takes = λ u. place_of u.present ∷ u.kept ∷ u.wanted ∷ [];
  may = λ u m. MayGrow at u m;
  shows = λ u. if may_grow u then [] else writes Err (trap_line OutOfMemory);
  ends = λ u. if may_grow u then None else Some 1;
  leaves = λ u m other. GrowthLeaves (may_grow u) at m other;
  reads = λ u input. input;
  gives = λ u other place. IsFilled (holds_it u.present u.wanted) at u (text_to u.wanted (kept_of u.present u.kept)) other place;
  lines = λ u. RESIZE_LINES + (grow_work u + ZERO_BYTE * (u.wanted - u.kept));
}

-- ---- the block of a text that has one is given back

pub record Releasing : Type 0 where
  pub present : Option Owned
  pub classes : List Class
  pub stands : Stands

pub record MayRelease (at : ℕ) (u : Releasing) (m : Memory) : Type 0 where
  pub heap : IsHeap at u.classes u.stands m
  pub present : IsPresent u.stands 0 u.present

abbrev pub releases : (at : ℕ) → Routine
releases at = record {
  number = RELEASE;
  Use = Releasing;
  takes = λ u. place_of u.present ∷ [];
  may = λ u m. MayRelease at u m;
  shows = λ u. [];
  ends = λ u. None;
  leaves = λ u m other. IsBesideHeap at m other;
  reads = λ u input. input;
  gives = λ u other word. IsHeap at (classes_then u.present u.classes) (stands_then u.present u.stands) other;
  lines = λ u. RELEASE_LINES;
}
