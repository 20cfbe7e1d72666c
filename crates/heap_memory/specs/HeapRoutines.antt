-- The routines of the heap: a row for each, with all that it promises.
use Rattle.std.specs.Prelude.{◌≡◌, ◌<◌, ◌≤◌, ℕ, zero, suc, ◌+◌, ◌*◌, ◌^◌, Bool, true, false, nat_lt, List, [], ◌∷◌, length, Some, None, if◌then◌else◌}
use Rattle.arc_base.specs.declared.outside.Stream.TheVariants.{Err}
use Rattle.arc_base.specs.Event.{writes}
use Rattle.rv32_isa.specs.Image.{heap_at}
use Rattle.rv32_isa.specs.Machine.{Lives}
use Rattle.rv32_isa.specs.Regions.{HasRegions}
use Rattle.nim_program.specs.Traps.{OutOfMemory}
use Rattle.nim_meaning.specs.Heap.{Class, heap_of, size_count, class_for, one_more, one_less, at_class, has_room}
use Rattle.word_code.specs.declared.word.WordInstr.{WordInstr}
use Rattle.word_code.specs.declared.word.WordProc.{WordProc}
use Rattle.word_code.specs.Memory.{KeepsShape, Memory, as_state, bytes_at}
use Rattle.word_code.specs.Words.{WordState}
use Rattle.word_code.specs.RoutineTable.{Beside, trap_line}
use Rattle.word_code.specs.Routines.{Routine, IsCalling, Comes}
use Rattle.heap_memory.specs.declared.numbers.TheConstants.{TAKE, GIVE, CLASS, CONTENTS_KIND, HEAP_WORD_BYTES, TAKE_LINES, NEXT_LINES, GIVE_LINES}
use Rattle.heap_memory.specs.declared.numbers.TheConstants.{CLASS_LINES, FURTHER_LINES}
use Rattle.heap_memory.specs.HeapState.{Standing, Stands, with_block, without_block, IsHeap}

-- the word that says a size: where its word stands among the heap's
abbrev pub class_word : (class : ℕ) → ℕ
class_word class = 4 * suc class

-- all beside the heap and its words is as it was
pub record IsBesideHeap (at : ℕ) (m other : Memory) : Type 0 where
  pub sizes : KeepsShape (as_state m) (as_state other)
  pub beside : (b n : ℕ) → Beside b n at HEAP_WORD_BYTES → Beside b n heap_at (length m.heap) → bytes_at other b n ≡ bytes_at m b n

-- ---- a block is taken

-- One of a size, or of none where no size holds what is asked for. It is to have an identity that nothing has.
pub record Taking : Type 0 where
  pub class : ℕ
  pub identity : ℕ
  -- the bytes of the heap, how many blocks are and were live, and those that are
  pub room : ℕ
  pub classes : List Class
  pub stands : Stands

-- The demand with this block is within the heap.
abbrev pub fits : Taking → Bool
fits u = has_room (record { room = u.room; classes = u.classes; blocks = [] }) u.class

-- a free block of the size is there: fewer are live than were
abbrev pub has_free : (class : ℕ) → List Class → Bool
has_free class [] = false
has_free zero (c ∷ classes) = nat_lt c.live c.peak
has_free (suc class) (c ∷ classes) = has_free class classes

pub record MayTake (at : ℕ) (u : Taking) (m : Memory) : Type 0 where
  pub heap : IsHeap at u.classes u.stands m
  pub all : length m.heap ≡ u.room
  pub known : u.class ≤ size_count
  pub unused : u.stands u.identity ≡ None

-- Behind it one more block stands, at the place that it gives; its payload may be any bytes.
pub record IsTaken (at : ℕ) (u : Taking) (other : Memory) (place : ℕ) : Type 0 where
  pub payload : List ℕ
  pub heap : IsHeap at (at_class one_more u.class u.classes)
      (with_block u.stands u.identity (record { place = place; class = u.class; kind = CONTENTS_KIND; word = 0; payload = payload })) other

abbrev pub Leaves : Bool → (at : ℕ) → (m other : Memory) → Type 0
Leaves true at m other = IsBesideHeap at m other
Leaves false at m other = other ≡ m

abbrev pub takes : (at : ℕ) → Routine
takes at = record {
  number = TAKE;
  Use = Taking;
  takes = λ u. class_word u.class ∷ [];
  may = λ u m. MayTake at u m;
  shows = λ u. if fits u then [] else writes Err (trap_line OutOfMemory);
  ends = λ u. if fits u then None else Some 1;
  leaves = λ u m other. Leaves (fits u) at m other;
  reads = λ u input. input;
  gives = λ u other place. IsTaken at u other place;
  lines = λ u. if has_free u.class u.classes then TAKE_LINES else NEXT_LINES;
}

-- ---- a block is given back

pub record Giving : Type 0 where
  pub identity : ℕ
  pub block : Standing
  pub classes : List Class
  pub stands : Stands

-- it stands, and holds a text or a sequence
pub record MayGive (at : ℕ) (u : Giving) (m : Memory) : Type 0 where
  pub heap : IsHeap at u.classes u.stands m
  pub there : u.stands u.identity ≡ Some u.block
  pub kind : u.block.kind ≡ CONTENTS_KIND
  pub word : u.block.word ≡ 0

abbrev pub gives_back : (at : ℕ) → Routine
gives_back at = record {
  number = GIVE;
  Use = Giving;
  takes = λ u. u.block.place ∷ [];
  may = λ u m. MayGive at u m;
  shows = λ u. [];
  ends = λ u. None;
  leaves = λ u m other. IsBesideHeap at m other;
  reads = λ u input. input;
  gives = λ u other word. IsHeap at (at_class one_less u.block.class u.classes) (without_block u.stands u.identity) other;
  lines = λ u. GIVE_LINES;
}

-- ---- the size for a payload

-- the class of the smallest size that holds it, the number of sizes where none does
abbrev pub class_of : (payload : ℕ) → ℕ
class_of payload = class_for payload (heap_of 0).classes

abbrev pub finds_class : Routine
finds_class = record {
  number = CLASS;
  Use = ℕ;
  takes = λ payload. payload ∷ [];
  may = λ payload m. payload < 2 ^ 32;
  shows = λ payload. [];
  ends = λ payload. None;
  leaves = λ payload m other. other ≡ m;
  reads = λ payload input. input;
  gives = λ payload other word. word ≡ class_word (class_of payload);
  lines = λ payload. CLASS_LINES + FURTHER_LINES * class_of payload;
}

-- ---- promises that are kept

-- the promise is kept among these procedures, whoever calls it
abbrev pub IsKeptThere : (live : Lives) (procs : List WordProc) → Routine → Type 0
IsKeptThere live procs r = (u : r.Use) (s : WordState) (to : ℕ) (rest : List WordInstr) → IsCalling r.number (r.takes u) to rest s
    → HasRegions (as_state s.memory) → r.may u s.memory → Comes live procs r u s to rest (r.ends u)
