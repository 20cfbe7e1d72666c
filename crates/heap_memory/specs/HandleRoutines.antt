-- The routines on handles. A text or a sequence stands as two words, its length and the place of its contents; these routines are given the addresses
-- of such handles.
use Rattle.std.specs.Prelude.{◌≡◌, ◌<◌, ℕ, ◌+◌, ◌-◌, ◌*◌, ◌^◌, Bool, true, false, List, [], ◌∷◌, length, None, Some, Ok, if◌then◌else◌}
use Rattle.std.specs.Fmt.{signed_decimal}
use Rattle.arc_base.specs.declared.outside.Stream.TheVariants.{Out, Err}
use Rattle.arc_base.specs.Event.{writes}
use Rattle.rv32_isa.specs.declared.micro_op.Size.TheVariants.{Word}
use Rattle.rv32_isa.specs.Image.{heap_at}
use Rattle.rv32_isa.specs.Values.{signed}
use Rattle.nim_program.specs.Traps.{OutOfMemory}
use Rattle.nim_meaning.specs.OwnedRows.{order, text_to}
use Rattle.word_code.specs.declared.routine.TheConstants.{DIGIT_LINES}
use Rattle.word_code.specs.Memory.{KeepsShape, Memory, as_state, number_at, may_put, bytes_at}
use Rattle.word_code.specs.RoutineTable.{Beside, IsRewritten, trap_line}
use Rattle.word_code.specs.Routines.{Routine}
use Rattle.heap_memory.specs.declared.numbers.TheConstants.{TEXT_ORDER, TEXT_WRITE, TEXT_COPY, TEXT_APPEND, TEXT_RESIZE, HANDLE_LINES}
use Rattle.heap_memory.specs.declared.numbers.TheConstants.{TEXT_JOIN, TEXT_OF_NUMBER, HEAP_DATA, APPEND_LINES, DIGITS_LINES, MOVE_BYTE}
use Rattle.heap_memory.specs.HeapState.{IsHeap}
use Rattle.heap_memory.specs.TextRoutines.{Comparing, MayCompare, orders}
use Rattle.heap_memory.specs.GrowRoutine.{Growing, NewBlock, new_growth, place_of, holds_it, may_grow, MayGrow, kept_of, grow_work}
use Rattle.heap_memory.specs.AppendRoutine.{IsFilled, source_at, source_bytes, Appending, appended, MayAppend, appends, resizes}
use Rattle.heap_memory.specs.AppendRoutine.{Joining, joined, joining_growth, MayJoin, joins}

-- ---- handles

pub record HasHandle (m : Memory) (a length place : ℕ) : Type 0 where
  pub long : number_at m a Word ≡ Ok length
  pub there : number_at m (a + 4) Word ≡ Ok place

-- one may be put to an address
abbrev pub MayHave : Memory → (a : ℕ) → Type 0
MayHave m a = (may_put m a Word ≡ true) × (may_put m (a + 4) Word ≡ true)

-- One was put there, and all else is as it was.
pub record IsHandlePut (m other : Memory) (a length place : ℕ) : Type 0 where
  pub rewritten : IsRewritten m other a 8
  pub handle : HasHandle other a length place

-- ---- texts are compared

-- the addresses of two handles, and their texts
pub record Ordering : Type 0 where
  pub left : ℕ
  pub right : ℕ
  pub texts : Comparing

pub record MayOrder (u : Ordering) (m : Memory) : Type 0 where
  pub left : HasHandle m u.left (length u.texts.first) u.texts.left
  pub right : HasHandle m u.right (length u.texts.second) u.texts.right
  pub texts : MayCompare u.texts m

abbrev pub orders_texts : Routine
orders_texts = record {
  number = TEXT_ORDER;
  Use = Ordering;
  takes = λ u. u.left ∷ u.right ∷ [];
  may = λ u m. MayOrder u m;
  shows = λ u. [];
  ends = λ u. None;
  leaves = λ u m other. other ≡ m;
  reads = λ u input. input;
  gives = λ u other word. (word < 2 ^ 32) × (signed word ≡ order u.texts.first u.texts.second);
  lines = λ u. HANDLE_LINES + orders.lines u.texts;
}

-- ---- a text is written

pub record Writing : Type 0 where
  pub at : ℕ
  pub place : ℕ
  pub text : List ℕ

pub record MayWrite (u : Writing) (m : Memory) : Type 0 where
  pub handle : HasHandle m u.at (length u.text) u.place
  pub here : bytes_at m u.place (length u.text) ≡ Some u.text
  pub small : u.place < 2 ^ 32

abbrev pub writes_text : Routine
writes_text = record {
  number = TEXT_WRITE;
  Use = Writing;
  takes = λ u. u.at ∷ [];
  may = λ u m. MayWrite u m;
  shows = λ u. writes Out u.text;
  ends = λ u. None;
  leaves = λ u m other. other ≡ m;
  reads = λ u input. input;
  gives = λ u other word. Unit {0};
  lines = λ u. HANDLE_LINES;
}

-- ---- contents are put

-- The handle at an address gets a length and a block, by a growth, which begins with these bytes.
pub record Putting : Type 0 where
  pub to : ℕ
  pub length : ℕ
  pub growth : Growing
  pub bytes : List ℕ

-- all beside the heap and the data of its routines is as it was
pub record IsBesideData (at : ℕ) (m other : Memory) : Type 0 where
  pub sizes : KeepsShape (as_state m) (as_state other)
  pub beside : (b n : ℕ) → Beside b n at HEAP_DATA → Beside b n heap_at (length m.heap) → bytes_at other b n ≡ bytes_at m b n

-- The block stands in the middle, where nothing beside the heap is other than before; behind that only the handle is put.
pub record AreContentsPut (at : ℕ) (u : Putting) (m other : Memory) : Type 0 where
  pub middle : Memory
  pub place : ℕ
  pub rest : IsBesideData at m middle
  pub filled : IsFilled (holds_it u.growth.present u.growth.wanted) at u.growth u.bytes middle place
  pub put : IsHandlePut middle other u.to u.length place

-- or the same blocks stand as before
pub record AreBlocksKept (at : ℕ) (u : Growing) (m other : Memory) : Type 0 where
  pub rest : IsBesideData at m other
  pub heap : IsHeap at u.classes u.stands other

abbrev pub PutLeaves : (grows : Bool) → (at : ℕ) → Putting → (m other : Memory) → Type 0
PutLeaves true at u m other = AreContentsPut at u m other
PutLeaves false at u m other = AreBlocksKept at u.growth m other

-- the word that is given, by the place that the handle has
pub record IsOfPlace (u : Putting) (word_for : (place : ℕ) → ℕ) (other : Memory) (word : ℕ) : Type 0 where
  pub place : ℕ
  pub handle : HasHandle other u.to u.length place
  pub is : word ≡ word_for place

-- any of these routines, by what it is given, where it may be called, what it puts, and the word that it gives
abbrev pub puts : (at number : ℕ) (Use : Type 0) → (takes : Use → List ℕ) → (may : Use → Memory → Type 0) → (putting : Use → Putting)
    → (word_for : Use → (place : ℕ) → ℕ) → (lines : Use → ℕ) → Routine
puts at number Use takes may putting word_for lines = record {
  number = number;
  Use = Use;
  takes = takes;
  may = may;
  shows = λ u. if may_grow (putting u).growth then [] else writes Err (trap_line OutOfMemory);
  ends = λ u. if may_grow (putting u).growth then None else Some 1;
  leaves = λ u m other. PutLeaves (may_grow (putting u).growth) at (putting u) m other;
  reads = λ u input. input;
  gives = λ u other word. IsOfPlace (putting u) (word_for u) other word;
  lines = lines;
}

-- ---- a text gets the characters of another one behind its own, or has none before

-- the addresses of its handle and of the other's
pub record AppendingText : Type 0 where
  pub to : ℕ
  pub from : ℕ
  pub appending : Appending

abbrev pub appended_text : AppendingText → Putting
appended_text u = record { to = u.to; length = u.appending.growth.wanted; growth = u.appending.growth; bytes = appended u.appending }

pub record MayAppendText (at : ℕ) (u : AppendingText) (m : Memory) : Type 0 where
  pub to : HasHandle m u.to u.appending.growth.kept (place_of u.appending.growth.present)
  pub from : HasHandle m u.from (length (source_bytes u.appending.source)) (source_at u.appending.source)
  pub has : MayHave m u.to
  pub appending : MayAppend at u.appending m

abbrev pub appends_text : (at : ℕ) → Routine
appends_text at = puts at TEXT_APPEND AppendingText (λ u. u.to ∷ u.from ∷ []) (λ u m. MayAppendText at u m) appended_text
    (λ u place. place) (λ u. HANDLE_LINES + (appends at).lines u.appending)

-- Whatever stands there, it is no text that counts. The place of the handle is asked for where a block can be had.
pub record MayCopyText (at : ℕ) (u : AppendingText) (m : Memory) : Type 0 where
  pub none : u.appending.growth.present ≡ None
  pub from : HasHandle m u.from (length (source_bytes u.appending.source)) (source_at u.appending.source)
  pub has : may_grow u.appending.growth ≡ true → MayHave m u.to
  pub appending : MayAppend at u.appending m

abbrev pub copies_text : (at : ℕ) → Routine
copies_text at = puts at TEXT_COPY AppendingText (λ u. u.to ∷ u.from ∷ []) (λ u m. MayCopyText at u m) appended_text
    (λ u place. place) (λ u. HANDLE_LINES + (appends at).lines u.appending)

-- ---- a text is made of two

-- where its handle goes, and the addresses of theirs
pub record JoiningTexts : Type 0 where
  pub to : ℕ
  pub left : ℕ
  pub right : ℕ
  pub joining : Joining

abbrev pub joined_text : JoiningTexts → Putting
joined_text u =
    record { to = u.to; length = (joining_growth u.joining).wanted; growth = joining_growth u.joining; bytes = joined u.joining }

pub record MayJoinTexts (at : ℕ) (u : JoiningTexts) (m : Memory) : Type 0 where
  pub left : HasHandle m u.left (length (source_bytes u.joining.first)) (source_at u.joining.first)
  pub right : HasHandle m u.right (length (source_bytes u.joining.second)) (source_at u.joining.second)
  pub has : MayHave m u.to
  pub joining : MayJoin at u.joining m

abbrev pub joins_texts : (at : ℕ) → Routine
joins_texts at = puts at TEXT_JOIN JoiningTexts (λ u. u.to ∷ u.left ∷ u.right ∷ []) (λ u m. MayJoinTexts at u m) joined_text
    (λ u place. place) (λ u. HANDLE_LINES + (joins at).lines u.joining)

-- ---- a text is made of a number

-- its word
pub record NumberText : Type 0 where
  pub to : ℕ
  pub word : ℕ
  pub new : NewBlock

abbrev pub characters_of : NumberText → List ℕ
characters_of u = signed_decimal (signed u.word)

abbrev pub number_text : NumberText → Putting
number_text u =
    record { to = u.to; length = length (characters_of u); growth = new_growth u.new (length (characters_of u)); bytes = characters_of u }

pub record MayPutNumber (at : ℕ) (u : NumberText) (m : Memory) : Type 0 where
  pub word : u.word < 2 ^ 32
  pub has : MayHave m u.to
  pub growth : MayGrow at (new_growth u.new (length (characters_of u))) m

abbrev pub puts_number : (at : ℕ) → Routine
puts_number at = puts at TEXT_OF_NUMBER NumberText (λ u. u.to ∷ u.word ∷ []) (λ u m. MayPutNumber at u m) number_text (λ u place. place)
    (λ u. HANDLE_LINES + (DIGITS_LINES + (DIGIT_LINES * (length (characters_of u) - 1) + (APPEND_LINES
    + (grow_work (new_growth u.new (length (characters_of u))) + MOVE_BYTE * length (characters_of u))))))

-- ---- a text gets another length

pub record ResizingText : Type 0 where
  pub to : ℕ
  pub growth : Growing

abbrev pub resized_text : ResizingText → Putting
resized_text u =
    record { to = u.to; length = u.growth.wanted; growth = u.growth; bytes = text_to u.growth.wanted (kept_of u.growth.present u.growth.kept) }

pub record MayResizeText (at : ℕ) (u : ResizingText) (m : Memory) : Type 0 where
  pub to : HasHandle m u.to u.growth.kept (place_of u.growth.present)
  pub has : MayHave m u.to
  pub growth : MayGrow at u.growth m

abbrev pub resizes_text : (at : ℕ) → Routine
resizes_text at = puts at TEXT_RESIZE ResizingText (λ u. u.to ∷ u.growth.wanted ∷ []) (λ u m. MayResizeText at u m) resized_text
    (λ u place. place) (λ u. HANDLE_LINES + (resizes at).lines u.growth)
