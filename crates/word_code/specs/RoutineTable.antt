-- The routines that there are: a row for each, with all that it promises.
use Rattle.std.specs.Prelude.{◌≡◌, ◌<◌, ◌≤◌, ◌⊎◌, ℕ, zero, suc, ◌+◌, ◌-◌, ◌*◌, ◌%◌, ◌^◌, Bool, true, false, List, [], ◌∷◌, ◌++◌, length, Some, None, Result, Ok}
use Rattle.std.specs.Prelude.{Err as Failed}
use Rattle.std.specs.Fmt.{signed_decimal}
use Rattle.arc_base.specs.declared.outside.Stream.TheVariants.{Out, Err}
use Rattle.arc_base.specs.Event.{writes}
use Rattle.rv32_isa.specs.declared.machine.FaultKind.{FaultKind}
use Rattle.rv32_isa.specs.declared.micro_op.Size.TheVariants.{Word}
use Rattle.rv32_isa.specs.Values.{signed}
use Rattle.nim_program.specs.Traps.{Trap, Overflow, DivisionByZero, IndexOutOfBounds, OutOfRange, NilDereference, LengthChanged, CallDepth}
use Rattle.nim_program.specs.Traps.{OutOfMemory, trap_text}
use Rattle.word_code.specs.declared.routine.TheConstants.{COPY, CLEAR, SWAP, NUMBER, TRAPS_FROM, SCRATCH_BYTES}
use Rattle.word_code.specs.declared.routine.TheConstants.{MOVE_LINES, COPY_LINES, CLEAR_LINES, SWAP_LINES, NUMBER_LINES, DIGIT_LINES, TRAP_LINES}
use Rattle.word_code.specs.Memory.{KeepsShape, Memory, as_state, number_at, may_put, bytes_at}
use Rattle.word_code.specs.Routines.{Routine}

-- ---- words in memory

-- A word that may be read and written. What nobody has written may be any bytes, also such that are no word.
pub record Cell (m : Memory) (a : ℕ) : Type 0 where
  pub may : may_put m a Word ≡ true
  pub word : ℕ
  pub reads : number_at m a Word ≡ Ok word

-- so many words from an address on
abbrev pub Area : Memory → (at words : ℕ) → Type 0
Area m a zero = Unit {0}
Area m a (suc n) = Cell m a × Area m (a + 4) n

-- so many bytes from b on in the second memory are, word by word, those from a on in the first
abbrev pub SameWords : (m : Memory) (a : ℕ) (other : Memory) (b bytes : ℕ) → Type 0
SameWords m a other b bytes = (o : ℕ) → o + 4 ≤ bytes → o % 4 ≡ 0 → number_at other (b + o) Word ≡ number_at m (a + o) Word

-- the low 32 bits of what is read
abbrev pub low : Result ℕ FaultKind → Result ℕ FaultKind
low (Ok w) = Ok (w % 2 ^ 32)
low (Failed kind) = Failed kind

-- the same of the low 32 bits: words that were copied
abbrev pub LowWords : (m : Memory) (a : ℕ) (other : Memory) (b bytes : ℕ) → Type 0
LowWords m a other b bytes = (o : ℕ) → o + 4 ≤ bytes → o % 4 ≡ 0 → number_at other (b + o) Word ≡ low (number_at m (a + o) Word)

-- so many bytes of zeros
abbrev pub ZeroWords : Memory → (at bytes : ℕ) → Type 0
ZeroWords m a bytes = (o : ℕ) → o + 4 ≤ bytes → o % 4 ≡ 0 → number_at m (a + o) Word ≡ Ok 0

-- the ranges are the same, or apart
abbrev pub Separate : (to from bytes : ℕ) → Type 0
Separate to from n = (to ≡ from) ⊎ ((to + n ≤ from) ⊎ (from + n ≤ to))

-- bytes beside a range
abbrev pub Beside : (b n at bytes : ℕ) → Type 0
Beside b n at bytes = (b + n ≤ at) ⊎ (at + bytes ≤ b)

-- only a range is other than it was
pub record IsRewritten (m other : Memory) (at bytes : ℕ) : Type 0 where
  pub sizes : KeepsShape (as_state m) (as_state other)
  pub beside : (b n : ℕ) → Beside b n at bytes → bytes_at other b n ≡ bytes_at m b n

-- ---- words are moved: the first one, and so many behind it

pub record Moving : Type 0 where
  pub to : ℕ
  pub from : ℕ
  pub behind : ℕ

abbrev pub bytes_moved : Moving → ℕ
bytes_moved u = 4 * suc u.behind

pub record IsCopied (u : Moving) (m other : Memory) : Type 0 where
  pub rewritten : IsRewritten m other u.to (bytes_moved u)
  pub same : LowWords m u.from other u.to (bytes_moved u)

abbrev pub copies : Routine
copies = record {
  number = COPY;
  Use = Moving;
  takes = λ u. u.to ∷ u.from ∷ bytes_moved u ∷ [];
  may = λ u m. Area m u.to (suc u.behind) × Area m u.from (suc u.behind) × Separate u.to u.from (bytes_moved u);
  shows = λ u. [];
  ends = λ u. None;
  leaves = λ u m other. IsCopied u m other;
  reads = λ u input. input;
  gives = λ u other word. Unit {0};
  lines = λ u. MOVE_LINES + COPY_LINES * suc u.behind;
}

pub record Clearing : Type 0 where
  pub to : ℕ
  pub behind : ℕ

abbrev pub bytes_cleared : Clearing → ℕ
bytes_cleared u = 4 * suc u.behind

pub record IsCleared (u : Clearing) (m other : Memory) : Type 0 where
  pub rewritten : IsRewritten m other u.to (bytes_cleared u)
  pub zeros : ZeroWords other u.to (bytes_cleared u)

abbrev pub clears : Routine
clears = record {
  number = CLEAR;
  Use = Clearing;
  takes = λ u. u.to ∷ bytes_cleared u ∷ [];
  may = λ u m. Area m u.to (suc u.behind);
  shows = λ u. [];
  ends = λ u. None;
  leaves = λ u m other. IsCleared u m other;
  reads = λ u input. input;
  gives = λ u other word. Unit {0};
  lines = λ u. MOVE_LINES + CLEAR_LINES * suc u.behind;
}

pub record AreSwapped (u : Moving) (m other : Memory) : Type 0 where
  pub sizes : KeepsShape (as_state m) (as_state other)
  pub beside : (b n : ℕ) → Beside b n u.to (bytes_moved u) → Beside b n u.from (bytes_moved u) → bytes_at other b n ≡ bytes_at m b n
  pub there : LowWords m u.from other u.to (bytes_moved u)
  pub back : LowWords m u.to other u.from (bytes_moved u)

abbrev pub swaps : Routine
swaps = record {
  number = SWAP;
  Use = Moving;
  takes = λ u. u.to ∷ u.from ∷ bytes_moved u ∷ [];
  may = λ u m. Area m u.to (suc u.behind) × Area m u.from (suc u.behind) × Separate u.to u.from (bytes_moved u);
  shows = λ u. [];
  ends = λ u. None;
  leaves = λ u m other. AreSwapped u m other;
  reads = λ u input. input;
  gives = λ u other word. Unit {0};
  lines = λ u. MOVE_LINES + SWAP_LINES * suc u.behind;
}

-- ---- texts are written

-- a word as a number with its sign, where the data of routines begins at an address
abbrev pub writes_number : (at : ℕ) → Routine
writes_number at = record {
  number = NUMBER;
  Use = ℕ;
  takes = λ word. word ∷ [];
  may = λ word m. word < 2 ^ 32;
  shows = λ word. writes Out (signed_decimal (signed word));
  ends = λ word. None;
  leaves = λ word m other. IsRewritten m other at SCRATCH_BYTES;
  reads = λ word input. input;
  gives = λ word other back. Unit {0};
  lines = λ word. NUMBER_LINES + DIGIT_LINES * (length (signed_decimal (signed word)) - 1);
}

-- the routine of each trap
abbrev pub trap_number : Trap → ℕ
trap_number Overflow = TRAPS_FROM
trap_number DivisionByZero = TRAPS_FROM + 1
trap_number IndexOutOfBounds = TRAPS_FROM + 2
trap_number OutOfRange = TRAPS_FROM + 3
trap_number LengthChanged = TRAPS_FROM + 4
trap_number CallDepth = TRAPS_FROM + 5
trap_number NilDereference = TRAPS_FROM + 6
trap_number OutOfMemory = TRAPS_FROM + 7

-- those of what comes with the heap aren't built
abbrev pub is_built : Trap → Bool
is_built NilDereference = false
is_built OutOfMemory = false
is_built trap = true

abbrev pub trap_line : Trap → List ℕ
trap_line trap = trap_text trap ++ 10 ∷ []

-- its line, and the end of the program
abbrev pub writes_trap : Trap → Routine
writes_trap trap = record {
  number = trap_number trap;
  Use = Unit {0};
  takes = λ u. [];
  may = λ u m. Unit {0};
  shows = λ u. writes Err (trap_line trap);
  ends = λ u. Some 1;
  leaves = λ u m other. other ≡ m;
  reads = λ u input. input;
  gives = λ u other word. Unit {0};
  lines = λ u. TRAP_LINES;
}

-- ---- all of them

pub data RoutineName : Type 0 where
  Copies Clears Swaps WritesNumber : RoutineName
  WritesTrap : (trap : Trap) → is_built trap ≡ true → RoutineName

-- what each promises, where the data of routines begins at an address
abbrev pub routine : (at : ℕ) → RoutineName → Routine
routine at Copies = copies
routine at Clears = clears
routine at Swaps = swaps
routine at WritesNumber = writes_number at
routine at (WritesTrap trap built) = writes_trap trap
