-- The routine that reads a line of the input into the text of a handle.
use Rattle.std.specs.Prelude.{◌≡◌, ◌≤◌, ℕ, ◌+◌, Bool, true, false, List, [], ◌∷◌, length, take, drop, Option, Some, None, Ok, if◌then◌else◌}
use Rattle.arc_base.specs.declared.outside.Stream.TheVariants.{Err}
use Rattle.arc_base.specs.Event.{writes}
use Rattle.rv32_isa.specs.declared.micro_op.Size.TheVariants.{Word}
use Rattle.nim_program.specs.Traps.{OutOfMemory}
use Rattle.nim_meaning.specs.Heap.{Class}
use Rattle.nim_meaning.specs.OwnedRows.{up_to_feed, next_line}
use Rattle.word_code.specs.Memory.{Memory, number_at}
use Rattle.word_code.specs.RoutineTable.{trap_line}
use Rattle.word_code.specs.Routines.{Routine}
use Rattle.heap_memory.specs.declared.numbers.TheConstants.{TEXT_READ, HEAP_SCRATCH, HANDLE_LINES, RELEASE_LINES, LINE_LINES}
use Rattle.heap_memory.specs.HeapState.{Stands, IsHeap}
use Rattle.heap_memory.specs.GrowRoutine.{Owned, place_of, IsPresent, classes_then, stands_then}
use Rattle.heap_memory.specs.AppendRoutine.{with_owned}
use Rattle.heap_memory.specs.LineRoutine.{UnderWay, empty_text, line_work, Reading, line_then, line_fits, block_under_way, IsPart}
use Rattle.heap_memory.specs.HandleRoutines.{MayHave, IsHandlePut, IsBesideData}

-- the address of a handle, the block of its text, if it has one, and the first identity of those that nothing has
pub record ReadingText : Type 0 where
  pub to : ℕ
  pub present : Option Owned
  pub first : ℕ
  pub room : ℕ
  pub classes : List Class
  pub stands : Stands

-- the line is read to the scratch bytes
abbrev pub to_scratch : (at : ℕ) → ReadingText → Reading
to_scratch at u = record { to = at + HEAP_SCRATCH; first = u.first; room = u.room; classes = u.classes; stands = u.stands }

pub record MayReadText (at : ℕ) (u : ReadingText) (m : Memory) : Type 0 where
  pub heap : IsHeap at u.classes u.stands m
  pub all : length m.heap ≡ u.room
  pub unused : (k : ℕ) → u.first ≤ k → u.stands k ≡ None
  pub there : number_at m (u.to + 4) Word ≡ Ok (place_of u.present)
  pub has : MayHave m u.to
  pub present : IsPresent u.stands 0 u.present

-- The line's block stands in the middle, without that of the text before; behind that only the handle is put.
pub record IsLinePut (at : ℕ) (u : ReadingText) (w : UnderWay) (text : List ℕ) (m other : Memory) : Type 0 where
  pub middle : Memory
  pub place : ℕ
  pub rest : IsBesideData at m middle
  pub payload : List ℕ
  pub front : take (length text) payload ≡ text
  pub there : place_of (block_under_way u.first place payload w) ≡ place
  pub heap : IsHeap at (classes_then u.present w.classes) (stands_then u.present (with_owned (block_under_way u.first place payload w) u.stands)) middle
  pub put : IsHandlePut middle other u.to (length text) place

abbrev pub LineLeaves : (fits : Bool) → (at : ℕ) → ReadingText → UnderWay → (text : List ℕ) → (m other : Memory) → Type 0
LineLeaves true at u w text m other = IsLinePut at u w text m other
LineLeaves false at u w text m other = IsBesideData at m other × IsPart at (to_scratch at u) w text other

-- Where no byte is left it gives 0, and nothing changes.
abbrev pub ReadTextLeaves : (at : ℕ) → (input : List ℕ) → ReadingText → (m other : Memory) → Type 0
ReadTextLeaves at [] u m other = other ≡ m
ReadTextLeaves at (c ∷ cs) u m other =
    LineLeaves (line_fits (c ∷ cs) (to_scratch at u)) at u (line_then (c ∷ cs) (to_scratch at u)) (next_line (c ∷ cs)) m other

abbrev pub if_any : List ℕ → ℕ
if_any [] = 0
if_any (c ∷ cs) = 1

-- where these bytes are left of the input
abbrev pub reads_text : (at : ℕ) → (input : List ℕ) → Routine
reads_text at input = record {
  number = TEXT_READ;
  Use = ReadingText;
  takes = λ u. u.to ∷ [];
  may = λ u m. MayReadText at u m;
  shows = λ u. if line_fits input (to_scratch at u) then [] else writes Err (trap_line OutOfMemory);
  ends = λ u. if line_fits input (to_scratch at u) then None else Some 1;
  leaves = λ u m other. ReadTextLeaves at input u m other;
  reads = λ u all. drop (up_to_feed input) all;
  gives = λ u other word. word ≡ if_any input;
  lines = λ u. HANDLE_LINES + (RELEASE_LINES + (LINE_LINES + line_work u.room (length (next_line input)) (empty_text u.classes)));
}
