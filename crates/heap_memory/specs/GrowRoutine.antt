-- The routine by which texts and sequences grow.
use Rattle.std.specs.Prelude.{◌≡◌, ◌<◌, ◌≤◌, ℕ, ◌+◌, ◌*◌, ◌^◌, Bool, true, false, nat_le, ◌||◌, List, [], ◌∷◌, length, take, Option, Some, None, if◌then◌else◌}
use Rattle.arc_base.specs.declared.outside.Stream.TheVariants.{Err}
use Rattle.arc_base.specs.Event.{writes}
use Rattle.nim_program.specs.Traps.{OutOfMemory}
use Rattle.nim_meaning.specs.Heap.{Class, one_more, one_less, at_class}
use Rattle.word_code.specs.Memory.{Memory}
use Rattle.word_code.specs.RoutineTable.{trap_line}
use Rattle.word_code.specs.Routines.{Routine}
use Rattle.heap_memory.specs.declared.numbers.TheConstants.{CONTENTS_KIND, FURTHER_LINES}
use Rattle.heap_memory.specs.declared.numbers.TheConstants.{GROW, GROW_LINES, KEPT_LINES, MOVE_BYTE}
use Rattle.heap_memory.specs.HeapState.{Standing, Stands, with_block, without_block, IsHeap}
use Rattle.heap_memory.specs.HeapRoutines.{class_of, Taking, fits, IsBesideHeap}
use Rattle.heap_memory.specs.TextRoutines.{AreBytes}

-- a block that stands, with its identity
pub record Owned : Type 0 where
  pub identity : ℕ
  pub block : Standing

-- A payload is to have so many bytes. There is a block with its present ones, of which so many are kept, or none. A new block has an identity
-- that nothing has.
pub record Growing : Type 0 where
  pub present : Option Owned
  pub kept : ℕ
  pub wanted : ℕ
  pub identity : ℕ
  pub room : ℕ
  pub classes : List Class
  pub stands : Stands

-- a new block, whose identity nothing has; the bytes of the heap, how many blocks are and were live, and those that are
pub record NewBlock : Type 0 where
  pub identity : ℕ
  pub room : ℕ
  pub classes : List Class
  pub stands : Stands

-- where none is there yet
abbrev pub new_growth : NewBlock → (wanted : ℕ) → Growing
new_growth new wanted =
    record { present = None; kept = 0; wanted = wanted; identity = new.identity; room = new.room; classes = new.classes; stands = new.stands }

-- the take of the new block
abbrev pub taking : Growing → Taking
taking u = record { class = class_of u.wanted; identity = u.identity; room = u.room; classes = u.classes; stands = u.stands }

abbrev pub place_of : Option Owned → ℕ
place_of None = 0
place_of (Some x) = x.block.place

-- for how many bytes it has room
abbrev pub room_of : Option Owned → ℕ
room_of None = 0
room_of (Some x) = length x.block.payload

-- the present block has room for so many bytes; where none are wanted, none has it too
abbrev pub holds_it : Option Owned → (wanted : ℕ) → Bool
holds_it present wanted = nat_le wanted (room_of present)

abbrev pub may_grow : Growing → Bool
may_grow u = holds_it u.present u.wanted || fits (taking u)

-- it holds a text or a sequence, of which so many bytes are in use
abbrev pub IsPresent : Stands → (kept : ℕ) → Option Owned → Type 0
IsPresent stands kept None = kept ≡ 0
IsPresent stands kept (Some x) =
    (stands x.identity ≡ Some x.block) × (x.block.kind ≡ CONTENTS_KIND) × (x.block.word ≡ 0) × (kept ≤ length x.block.payload)
    × AreBytes (take kept x.block.payload)

pub record MayGrow (at : ℕ) (u : Growing) (m : Memory) : Type 0 where
  pub heap : IsHeap at u.classes u.stands m
  pub all : length m.heap ≡ u.room
  pub word : u.wanted < 2 ^ 32
  pub unused : u.stands u.identity ≡ None
  pub present : IsPresent u.stands u.kept u.present

-- the present block is given behind the take of the new one
abbrev pub classes_then : Option Owned → List Class → List Class
classes_then None classes = classes
classes_then (Some x) classes = at_class one_less x.block.class classes

abbrev pub stands_then : Option Owned → Stands → Stands
stands_then None stands = stands
stands_then (Some x) stands = without_block stands x.identity

abbrev pub kept_of : Option Owned → (kept : ℕ) → List ℕ
kept_of None kept = []
kept_of (Some x) kept = take kept x.block.payload

-- Behind it the new block stands alone at the place that it gives, and begins with what was kept.
pub record IsGrown (at : ℕ) (u : Growing) (other : Memory) (place : ℕ) : Type 0 where
  pub payload : List ℕ
  pub front : take u.kept payload ≡ kept_of u.present u.kept
  pub long : u.wanted ≤ length payload
  pub heap : IsHeap at (classes_then u.present (at_class one_more (class_of u.wanted) u.classes)) (stands_then u.present (with_block u.stands u.identity
      (record { place = place; class = class_of u.wanted; kind = CONTENTS_KIND; word = 0; payload = payload }))) other

abbrev pub GrowLeaves : (enough fits : Bool) → (at : ℕ) → (m other : Memory) → Type 0
GrowLeaves true fits at m other = other ≡ m
GrowLeaves false true at m other = IsBesideHeap at m other
GrowLeaves false false at m other = other ≡ m

abbrev pub GrowGives : (enough : Bool) → (at : ℕ) → Growing → Memory → (place : ℕ) → Type 0
GrowGives true at u other place = place ≡ place_of u.present
GrowGives false at u other place = IsGrown at u other place

-- the lines of it
abbrev pub grow_work : Growing → ℕ
grow_work u =
    if holds_it u.present u.wanted then KEPT_LINES else GROW_LINES + (FURTHER_LINES * class_of u.wanted + MOVE_BYTE * u.kept)

abbrev pub grows : (at : ℕ) → Routine
grows at = record {
  number = GROW;
  Use = Growing;
  takes = λ u. place_of u.present ∷ u.kept ∷ u.wanted ∷ [];
  may = λ u m. MayGrow at u m;
  shows = λ u. if may_grow u then [] else writes Err (trap_line OutOfMemory);
  ends = λ u. if may_grow u then None else Some 1;
  leaves = λ u m other. GrowLeaves (holds_it u.present u.wanted) (fits (taking u)) at m other;
  reads = λ u input. input;
  gives = λ u other place. GrowGives (holds_it u.present u.wanted) at u other place;
  lines = λ u. grow_work u;
}
