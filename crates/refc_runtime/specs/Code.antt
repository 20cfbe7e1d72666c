-- The code of routines and its data. Their calls don't count, and they have no places. No public contract speaks of it.
use Rattle.std.specs.Prelude.{◌≡◌, ℕ, ◌-◌, List, [], ◌∷◌, ◌++◌, length, replicate}
use Rattle.arc_base.specs.declared.outside.Stream.TheVariants.{Out, Err}
use Rattle.rv32_isa.specs.declared.micro_op.Size.TheVariants.{Byte, Word as whole}
use Rattle.nim_program.specs.Traps.{Trap, Overflow, DivisionByZero, IndexOutOfBounds, OutOfRange, LengthChanged, CallDepth}
use Rattle.word_code.specs.declared.routine.TheConstants.{COPY, CLEAR, SWAP, NUMBER, SCRATCH_BYTES}
use Rattle.word_code.specs.declared.word.WordOperation.TheVariants as operation
use Rattle.word_code.specs.declared.word.Test.TheVariants as test
use Rattle.word_code.specs.declared.word.ProcKind.TheVariants.{Uncounted}
use Rattle.word_code.specs.declared.word.WordInstr.{WordInstr}
use Rattle.word_code.specs.declared.word.WordInstr.TheVariants.{Label, Constant, Copy, Sum, Compute, Datum, Load, Store, Jump, Branch, Return, Write, Exit}
use Rattle.word_code.specs.declared.word.WordProc.{WordProc}
use Rattle.word_code.specs.RoutineTable.{trap_number, trap_line}
use Rattle.refc_runtime.specs.declared.routines.TheConstants.{ONE_LESS, OVERFLOW_AT, DIVISION_AT, INDEX_AT, RANGE_AT, LENGTH_AT, DEPTH_AT}

-- what was put behind the old items stands before whatever follows
abbrev pub Puts : {A : Type 0} → (old new : List A) → (List A → List A) → Type 0
Puts {A} old new before = (k : List A) → new ++ k ≡ old ++ before k

abbrev pub routine : (number params vars : ℕ) → List WordInstr → WordProc
routine number params vars lines =
    record { number = number; kind = Uncounted; params = params; vars = vars; room = 0; data_from = 0; lines = lines }

-- copies to the address in variable 0 from that in 1 as many bytes as 2 says, word by word; there is at least one word
abbrev pub copy_lines : List WordInstr
copy_lines =
    Compute 3 operation.Add 1 2
    ∷ Copy 4 0
    ∷ Copy 5 1
    ∷ Label 0
    ∷ Load 6 5 whole
    ∷ Store 4 6 whole
    ∷ Sum 4 4 4
    ∷ Sum 5 5 4
    ∷ Branch test.Unequal 5 3 0
    ∷ Return 3
    ∷ []

-- zeros to the address in variable 0, as many bytes as 1 says
abbrev pub clear_lines : List WordInstr
clear_lines =
    Compute 2 operation.Add 0 1
    ∷ Copy 3 0
    ∷ Constant 4 0
    ∷ Label 0
    ∷ Store 3 4 whole
    ∷ Sum 3 3 4
    ∷ Branch test.Unequal 3 2 0
    ∷ Return 2
    ∷ []

-- as many bytes as variable 2 says trade places between the addresses in 0 and 1
abbrev pub swap_lines : List WordInstr
swap_lines =
    Compute 3 operation.Add 0 2
    ∷ Copy 4 0
    ∷ Copy 5 1
    ∷ Label 0
    ∷ Load 6 4 whole
    ∷ Load 7 5 whole
    ∷ Store 4 7 whole
    ∷ Store 5 6 whole
    ∷ Sum 4 4 4
    ∷ Sum 5 5 4
    ∷ Branch test.Unequal 4 3 0
    ∷ Return 3
    ∷ []

-- Spells the number in variable 0 in decimal. What is left of it, without its sign, is in 1, and the character in 6. A character is put
-- at the address in 2 once it is known what stands before it: another digit, a sign, or nothing. The second line says where the last one goes;
-- behind the first one these lines follow.
abbrev pub spelling_lines : WordInstr → List WordInstr → List WordInstr
spelling_lines second lines =
    Constant 5 10
    ∷ second
    ∷ Copy 1 0
    ∷ Sum 6 1 48
    ∷ Branch test.Below 1 5 2
    ∷ Constant 4 0
    ∷ Branch test.AtLeast 1 4 1
    ∷ Compute 1 operation.Subtract 4 1
    ∷ Jump 1
    ∷ Label 0
    ∷ Store 2 6 Byte
    ∷ Sum 2 2 ONE_LESS
    ∷ Label 1
    ∷ Compute 6 operation.RemainderUnsigned 1 5
    ∷ Sum 6 6 48
    ∷ Compute 1 operation.DivideUnsigned 1 5
    ∷ Branch test.Unequal 1 4 0
    ∷ Branch test.AtLeast 0 4 2
    ∷ Store 2 6 Byte
    ∷ Sum 2 2 ONE_LESS
    ∷ Constant 6 45
    ∷ Label 2
    ∷ Store 2 6 Byte
    ∷ lines

-- into the data, from where it is written
abbrev pub number_lines : List WordInstr
number_lines =
    spelling_lines (Datum 2 (SCRATCH_BYTES - 1)) (Datum 3 SCRATCH_BYTES ∷ Compute 3 operation.Subtract 3 2 ∷ Write Out 2 3 ∷ Return 3 ∷ [])

-- to the end of the bytes at the address in 1
abbrev pub digits_lines : List WordInstr
digits_lines = spelling_lines (Sum 2 1 (SCRATCH_BYTES - 1)) (Return 2 ∷ [])

-- writes so many bytes of the data to standard error, and exits with status 1
abbrev pub ending_lines : (at len : ℕ) → List WordInstr
ending_lines at len = Datum 0 at ∷ Constant 1 len ∷ Write Err 0 1 ∷ Constant 0 1 ∷ Exit 0 ∷ []

-- where the line of a trap stands in the data; what comes with the heap has none
abbrev pub trap_at : Trap → ℕ
trap_at Overflow = OVERFLOW_AT
trap_at DivisionByZero = DIVISION_AT
trap_at IndexOutOfBounds = INDEX_AT
trap_at OutOfRange = RANGE_AT
trap_at LengthChanged = LENGTH_AT
trap_at CallDepth = DEPTH_AT
trap_at trap = 0

abbrev pub trap_routine : Trap → WordProc
trap_routine trap = routine (trap_number trap) 0 2 (ending_lines (trap_at trap) (length (trap_line trap)))

abbrev pub and_traps : List WordProc → List WordProc
and_traps procs =
    trap_routine Overflow
    ∷ trap_routine DivisionByZero
    ∷ trap_routine IndexOutOfBounds
    ∷ trap_routine OutOfRange
    ∷ trap_routine LengthChanged
    ∷ trap_routine CallDepth
    ∷ procs

abbrev pub and_routines : List WordProc → List WordProc
and_routines procs =
    routine COPY 3 7 copy_lines
    ∷ routine CLEAR 2 5 clear_lines
    ∷ routine SWAP 3 8 swap_lines
    ∷ routine NUMBER 1 7 number_lines
    ∷ and_traps procs

abbrev pub routines : List WordProc
routines = and_routines []

-- ---- data: room for the digits of a number, and the lines of traps, each with zeros up to a whole number of words

abbrev pub statics : List ℕ
statics =
    replicate SCRATCH_BYTES 0
    ++ (trap_line Overflow ++ (trap_line DivisionByZero ++ (trap_line IndexOutOfBounds ++ (0 ∷ [] ++ (trap_line OutOfRange
    ++ (0 ∷ 0 ∷ [] ++ (trap_line LengthChanged ++ (0 ∷ 0 ∷ [] ++ trap_line CallDepth))))))))
