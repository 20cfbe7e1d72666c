-- Routines on the bytes of texts: a row for each, with all that it promises.
use Rattle.std.specs.Prelude.{◌≡◌, ◌<◌, ◌≤◌, ℕ, ◌+◌, ◌-◌, ◌*◌, ◌^◌, List, [], ◌∷◌, length, Some, None, true}
use Rattle.std.specs.Fmt.{signed_decimal}
use Rattle.nim_meaning.specs.OwnedRows.{order}
use Rattle.word_code.specs.declared.routine.TheConstants.{SCRATCH_BYTES, DIGIT_LINES}
use Rattle.word_code.specs.Memory.{Memory, bytes_at, may_fill}
use Rattle.word_code.specs.RoutineTable.{Beside, IsRewritten}
use Rattle.word_code.specs.Routines.{Routine}
use Rattle.heap_memory.specs.declared.numbers.TheConstants.{MOVE, MOVE_START, MOVE_BYTE, ORDER, ORDER_START, ORDER_BYTE}
use Rattle.heap_memory.specs.declared.numbers.TheConstants.{DIGITS, DIGITS_LINES}
use Rattle.rv32_isa.specs.Values.{signed}
pub use Rattle.rv32_isa.specs.Regions.{AreBytes}

-- ---- bytes are copied

-- these bytes, which stand at an address, to another one
pub record Copying : Type 0 where
  pub to : ℕ
  pub from : ℕ
  pub bytes : List ℕ

pub record MayCopy (u : Copying) (m : Memory) : Type 0 where
  pub are : AreBytes u.bytes
  pub here : bytes_at m u.from (length u.bytes) ≡ Some u.bytes
  pub may : may_fill m u.to (length u.bytes) ≡ true
  pub apart : Beside u.to (length u.bytes) u.from (length u.bytes)
  pub to_word : u.to < 2 ^ 32
  pub from_word : u.from < 2 ^ 32

pub record AreThere (u : Copying) (m other : Memory) : Type 0 where
  pub rewritten : IsRewritten m other u.to (length u.bytes)
  pub there : bytes_at other u.to (length u.bytes) ≡ Some u.bytes

abbrev pub moves_bytes : Routine
moves_bytes = record {
  number = MOVE;
  Use = Copying;
  takes = λ u. u.to ∷ u.from ∷ length u.bytes ∷ [];
  may = λ u m. MayCopy u m;
  shows = λ u. [];
  ends = λ u. None;
  leaves = λ u m other. AreThere u m other;
  reads = λ u input. input;
  gives = λ u other word. Unit {0};
  lines = λ u. MOVE_START + MOVE_BYTE * length u.bytes;
}

-- ---- a number is spelled

-- its word, and so many bytes to whose end its text is to go
pub record Spelling : Type 0 where
  pub word : ℕ
  pub to : ℕ

abbrev pub spelled : Spelling → List ℕ
spelled u = signed_decimal (signed u.word)

-- The text begins at a place, and ends with those bytes.
pub record IsSpelled (u : Spelling) (other : Memory) (place : ℕ) : Type 0 where
  pub are : AreBytes (spelled u)
  pub low : u.to ≤ place
  pub ends : place + length (spelled u) ≡ u.to + SCRATCH_BYTES
  pub there : bytes_at other place (length (spelled u)) ≡ Some (spelled u)

abbrev pub spells : Routine
spells = record {
  number = DIGITS;
  Use = Spelling;
  takes = λ u. u.word ∷ u.to ∷ [];
  may = λ u m. (u.word < 2 ^ 32) × (may_fill m u.to SCRATCH_BYTES ≡ true);
  shows = λ u. [];
  ends = λ u. None;
  leaves = λ u m other. IsRewritten m other u.to SCRATCH_BYTES;
  reads = λ u input. input;
  gives = λ u other place. IsSpelled u other place;
  lines = λ u. DIGITS_LINES + DIGIT_LINES * (length (spelled u) - 1);
}

-- ---- texts are compared

-- these bytes, which stand at these addresses
pub record Comparing : Type 0 where
  pub left : ℕ
  pub first : List ℕ
  pub right : ℕ
  pub second : List ℕ

pub record MayCompare (u : Comparing) (m : Memory) : Type 0 where
  pub first_are : AreBytes u.first
  pub second_are : AreBytes u.second
  pub first_here : bytes_at m u.left (length u.first) ≡ Some u.first
  pub second_here : bytes_at m u.right (length u.second) ≡ Some u.second
  pub left_word : u.left < 2 ^ 32
  pub right_word : u.right < 2 ^ 32

abbrev pub orders : Routine
orders = record {
  number = ORDER;
  Use = Comparing;
  takes = λ u. u.left ∷ length u.first ∷ u.right ∷ length u.second ∷ [];
  may = λ u m. MayCompare u m;
  shows = λ u. [];
  ends = λ u. None;
  leaves = λ u m other. other ≡ m;
  reads = λ u input. input;
  gives = λ u other word. (word < 2 ^ 32) × (signed word ≡ order u.first u.second);
  lines = λ u. ORDER_START + ORDER_BYTE * length u.first;
}
