-- The routine that reads a line of the input: a text that gets a character at a time.
use Rattle.std.specs.Prelude.{◌≡◌, ◌≤◌, ℕ, zero, suc, ◌+◌, ◌-◌, ◌*◌, Bool, true, false, nat_le, ◌||◌, List, [], ◌∷◌, length, take, drop, Option, Some, None}
use Rattle.std.specs.Prelude.{Ok, if◌then◌else◌}
use Rattle.arc_base.specs.declared.outside.Stream.TheVariants.{Err}
use Rattle.arc_base.specs.Event.{writes}
use Rattle.rv32_isa.specs.declared.micro_op.Size.TheVariants.{Word}
use Rattle.rv32_isa.specs.Image.{heap_at}
use Rattle.rv32_isa.specs.Machine.{Lives}
use Rattle.rv32_isa.specs.Regions.{HasRegions}
use Rattle.nim_types.specs.declared.blocks.TheConstants.{HEADER_BYTES}
use Rattle.nim_program.specs.Traps.{OutOfMemory}
use Rattle.nim_meaning.specs.Heap.{Class, one_more, one_less, at_class, has_room}
use Rattle.nim_meaning.specs.OwnedRows.{up_to_feed, next_line}
use Rattle.word_code.specs.declared.word.WordInstr.{WordInstr}
use Rattle.word_code.specs.declared.word.WordProc.{WordProc}
use Rattle.word_code.specs.Memory.{KeepsShape, Memory, as_state, number_at, bytes_at}
use Rattle.word_code.specs.Words.{WordState}
use Rattle.word_code.specs.RoutineTable.{Beside, Area, trap_line}
use Rattle.word_code.specs.Routines.{Routine, IsCalling, Comes}
use Rattle.heap_memory.specs.declared.numbers.TheConstants.{HEAP_WORD_BYTES, FURTHER_LINES}
use Rattle.heap_memory.specs.declared.numbers.TheConstants.{GROW_LINES, KEPT_LINES, MOVE_BYTE}
use Rattle.heap_memory.specs.declared.numbers.TheConstants.{READ_LINE, LINE_LINES, CHAR_LINES}
use Rattle.heap_memory.specs.HeapBlocks.{size_at}
use Rattle.heap_memory.specs.HeapState.{Stands, IsHeap}
use Rattle.heap_memory.specs.HeapUse.{IsElsewhere}
use Rattle.heap_memory.specs.HeapRoutines.{class_of}
use Rattle.heap_memory.specs.GrowRoutine.{Owned, place_of}
use Rattle.heap_memory.specs.AppendRoutine.{with_owned, new_block}

-- ---- a text under way

-- how many characters it has, the class of its block, if it has one, how many blocks are and were live, and how many it has taken
pub record UnderWay : Type 0 where
  pub length : ℕ
  pub class : Option ℕ
  pub classes : List Class
  pub takes : ℕ

abbrev pub empty_text : List Class → UnderWay
empty_text classes = record { length = 0; class = None; classes = classes; takes = 0 }

abbrev pub capacity : Option ℕ → ℕ
capacity None = 0
capacity (Some class) = size_at class - HEADER_BYTES

-- its block has room for one more character
abbrev pub has_capacity : UnderWay → Bool
has_capacity w = nat_le (suc w.length) (capacity w.class)

abbrev pub without_class : Option ℕ → List Class → List Class
without_class None classes = classes
without_class (Some class) classes = at_class one_less class classes

-- with one more: in its block, or in the smallest one that holds them, behind whose take the present one is given back
abbrev pub one_longer : UnderWay → UnderWay
one_longer w = if has_capacity w then record w { length = suc w.length } else record {
  length = suc w.length;
  class = Some (class_of (suc w.length));
  classes = without_class w.class (at_class one_more (class_of (suc w.length)) w.classes);
  takes = suc w.takes;
}

-- one more fits in its block, or the demand with a larger one is within the heap
abbrev pub may_get : (room : ℕ) → UnderWay → Bool
may_get room w = has_capacity w || has_room (record { room = room; classes = w.classes; blocks = [] }) (class_of (suc w.length))

-- whether so many more characters fit, and where it comes with them: up to the first one that doesn't
abbrev pub all_fit : (room count : ℕ) → UnderWay → Bool
all_fit room zero w = true
all_fit room (suc n) w = if may_get room w then all_fit room n (one_longer w) else false

abbrev pub longer : (room count : ℕ) → UnderWay → UnderWay
longer room zero w = w
longer room (suc n) w = if may_get room w then longer room n (one_longer w) else w

-- the lines for so many
abbrev pub char_work : UnderWay → ℕ
char_work w = CHAR_LINES + (if has_capacity w then KEPT_LINES else GROW_LINES + (FURTHER_LINES * class_of (suc w.length) + MOVE_BYTE * w.length))

abbrev pub line_work : (room count : ℕ) → UnderWay → ℕ
line_work room zero w = 0
line_work room (suc n) w = char_work w + (if may_get room w then line_work room n (one_longer w) else 0)

-- ---- the routine

-- It puts a text to an address. The blocks that it takes have identities that nothing has, one after another from the first on.
pub record Reading : Type 0 where
  pub to : ℕ
  pub first : ℕ
  pub room : ℕ
  pub classes : List Class
  pub stands : Stands

pub record MayRead (at : ℕ) (u : Reading) (m : Memory) : Type 0 where
  pub heap : IsHeap at u.classes u.stands m
  pub all : length m.heap ≡ u.room
  pub cells : Area m u.to 2
  pub elsewhere : IsElsewhere at m u.to 8
  pub unused : (k : ℕ) → u.first ≤ k → u.stands k ≡ None

-- the line, as far as it fits
abbrev pub line_then : (input : List ℕ) → Reading → UnderWay
line_then input u = longer u.room (length (next_line input)) (empty_text u.classes)

abbrev pub line_fits : (input : List ℕ) → Reading → Bool
line_fits input u = all_fit u.room (length (next_line input)) (empty_text u.classes)

-- the block of a text under way
abbrev pub block_of_class : Option ℕ → (identity place : ℕ) → List ℕ → Option Owned
block_of_class None identity place payload = None
block_of_class (Some class) identity place payload = Some (record { identity = identity; block = new_block class place payload })

abbrev pub block_under_way : (first place : ℕ) → List ℕ → UnderWay → Option Owned
block_under_way first place payload w = block_of_class w.class (first + w.takes - 1) place payload

-- its block, if it has one, has room for so many characters, and an identity of its own
abbrev pub HasBlock : (class : Option ℕ) → (long takes : ℕ) → (payload : List ℕ) → Type 0
HasBlock None long takes payload = long ≡ 0
HasBlock (Some class) long takes payload = (long ≤ length payload) × (1 ≤ takes)

-- It stands there, with these characters.
pub record IsUnderWay (at : ℕ) (u : Reading) (w : UnderWay) (text : List ℕ) (other : Memory) (place : ℕ) : Type 0 where
  pub payload : List ℕ
  pub long : length text ≡ w.length
  pub has : HasBlock w.class w.length w.takes payload
  pub front : take (length text) payload ≡ text
  pub there : place_of (block_under_way u.first place payload w) ≡ place
  pub heap : IsHeap at w.classes (with_owned (block_under_way u.first place payload w) u.stands) other

-- all beside the heap, its words and the text's is as it was
pub record IsBesideText (at : ℕ) (u : Reading) (m other : Memory) : Type 0 where
  pub sizes : KeepsShape (as_state m) (as_state other)
  pub beside : (b n : ℕ) → Beside b n at HEAP_WORD_BYTES → Beside b n heap_at (length m.heap) → Beside b n u.to 8 → bytes_at other b n ≡ bytes_at m b n

-- the line stands there, and the address has its length and its block
pub record IsLine (at : ℕ) (u : Reading) (w : UnderWay) (text : List ℕ) (other : Memory) : Type 0 where
  pub place : ℕ
  pub stands : IsUnderWay at u w text other place
  pub length : number_at other u.to Word ≡ Ok (length text)
  pub block : number_at other (u.to + 4) Word ≡ Ok place

-- a part of it does
pub record IsPart (at : ℕ) (u : Reading) (w : UnderWay) (text : List ℕ) (other : Memory) : Type 0 where
  pub place : ℕ
  pub stands : IsUnderWay at u w (take w.length text) other place

-- Where no byte is left it gives 0, and nothing changes.
abbrev pub ReadLeaves : (at : ℕ) → (input : List ℕ) → Reading → (m other : Memory) → Type 0
ReadLeaves at [] u m other = other ≡ m
ReadLeaves at (c ∷ cs) u m other = IsBesideText at u m other × IsPart at u (line_then (c ∷ cs) u) (next_line (c ∷ cs)) other

abbrev pub ReadGives : (at : ℕ) → (input : List ℕ) → Reading → Memory → (word : ℕ) → Type 0
ReadGives at [] u other word = word ≡ 0
ReadGives at (c ∷ cs) u other word = (word ≡ 1) × IsLine at u (line_then (c ∷ cs) u) (next_line (c ∷ cs)) other

-- where these bytes are left of the input
abbrev pub reads_line : (at : ℕ) → (input : List ℕ) → Routine
reads_line at input = record {
  number = READ_LINE;
  Use = Reading;
  takes = λ u. u.to ∷ [];
  may = λ u m. MayRead at u m;
  shows = λ u. if line_fits input u then [] else writes Err (trap_line OutOfMemory);
  ends = λ u. if line_fits input u then None else Some 1;
  leaves = λ u m other. ReadLeaves at input u m other;
  reads = λ u all. drop (up_to_feed input) all;
  gives = λ u other word. ReadGives at input u other word;
  lines = λ u. LINE_LINES + line_work u.room (length (next_line input)) (empty_text u.classes);
}

-- the promise is kept among these procedures, whoever calls it where that input is left
abbrev pub IsKeptOn : (live : Lives) (procs : List WordProc) (input : List ℕ) → Routine → Type 0
IsKeptOn live procs input r = (u : r.Use) (s : WordState) (to : ℕ) (rest : List WordInstr) → s.input ≡ input → IsCalling r.number (r.takes u) to rest s
    → HasRegions (as_state s.memory) → r.may u s.memory → Comes live procs r u s to rest (r.ends u)
