-- The code of all routines is a runtime.
use Rattle.std.proofs.Common.{◌≡◌, ℕ, suc, ◌<◌, ◌≤◌, List, [], ◌∷◌, ◌++◌, length, true, false, refl, sym, ap, ap₂, subst, ◌∙◌, arith, append-nil}
use Rattle.std.proofs.lemmas.Bool.{true≢false}
use Rattle.rv32_isa.specs.Machine.{Lives}
use Rattle.nim_program.specs.Traps.{Trap, Overflow, DivisionByZero, IndexOutOfBounds, OutOfRange, NilDereference, LengthChanged, CallDepth, OutOfMemory}
use Rattle.word_code.specs.declared.routine.TheConstants.{COPY, CLEAR, SWAP, NUMBER, PROCS_FROM, ROUTINE_VARIABLES, ROUTINE_CHAIN}
use Rattle.word_code.specs.declared.word.WordInstr.{WordInstr}
use Rattle.word_code.specs.declared.word.WordProc.{WordProc}
use Rattle.word_code.specs.declared.word.WordCode.{WordCode}
use Rattle.word_code.specs.Words.{is_counted, most_called, from_proc}
use Rattle.word_code.specs.Joined.{all_moved, joined, AreApart}
use Rattle.word_code.specs.Routines.{IsKept}
use Rattle.word_code.specs.RoutineTable.{RoutineName, Copies, Clears, Swaps, WritesNumber, WritesTrap, is_built, routine as promised}
use Rattle.word_code.specs.Runtime.{IsRoutine, routines_at, IsRuntime}
use Rattle.word_code.proofs.ForCallers.{MemoryLaw, found_last, free_of}
use Rattle.refc_runtime.specs.Code.{Puts, routine, copy_lines, clear_lines, swap_lines, number_lines, trap_routine}
use Rattle.refc_runtime.specs.Code.{and_traps, routines, statics}
use Rattle.refc_runtime.proofs.Moved.{copy_kept, clear_kept, swap_kept}
use Rattle.refc_runtime.proofs.NumberKept.{number_kept}
use Rattle.refc_runtime.proofs.TrapRuns.{trap_kept}

-- as they are put together
pub all_put : (a b c d : WordProc) (empty first second third fourth all : List WordProc) → empty ≡ [] → first ≡ empty ++ a ∷ []
    → second ≡ first ++ b ∷ [] → third ≡ second ++ c ∷ [] → fourth ≡ third ++ d ∷ [] → Puts fourth all and_traps
    → a ≡ routine COPY 3 7 copy_lines → b ≡ routine CLEAR 2 5 clear_lines → c ≡ routine SWAP 3 8 swap_lines → d ≡ routine NUMBER 1 7 number_lines
    → all ≡ routines
all_put a b c d empty first second third fourth all none e f g h puts is_a is_b is_c is_d =
    let one : first ≡ routine COPY 3 7 copy_lines ∷ [] = e ∙ ap₂ (λ l p. l ++ p ∷ []) none is_a in
    let two : second ≡ routine COPY 3 7 copy_lines ∷ routine CLEAR 2 5 clear_lines ∷ [] = f ∙ ap₂ (λ l p. l ++ p ∷ []) one is_b in
    let three : third ≡ routine COPY 3 7 copy_lines ∷ routine CLEAR 2 5 clear_lines ∷ routine SWAP 3 8 swap_lines ∷ []
    = g ∙ ap₂ (λ l p. l ++ p ∷ []) two is_c in
    sym (append-nil all) ∙ puts [] ∙ ap (λ l. l ++ and_traps []) (h ∙ ap₂ (λ l p. l ++ p ∷ []) three is_d)

-- ---- each of them

is_routine : (number params vars : ℕ) (lines : List WordInstr) → 0 < number → number < PROCS_FROM → vars ≤ ROUTINE_VARIABLES
    → IsRoutine (routine number params vars lines)
is_routine number params vars lines some last few =
    record { first = some; last = last; kind = refl; whole_data = refl; small = record { room = omega arith; variables = few } }

trap_is : (trap : Trap) → IsRoutine (trap_routine trap)
trap_is Overflow = is_routine _ 0 2 _ (omega arith) (omega arith) (omega arith)
trap_is DivisionByZero = is_routine _ 0 2 _ (omega arith) (omega arith) (omega arith)
trap_is IndexOutOfBounds = is_routine _ 0 2 _ (omega arith) (omega arith) (omega arith)
trap_is OutOfRange = is_routine _ 0 2 _ (omega arith) (omega arith) (omega arith)
trap_is LengthChanged = is_routine _ 0 2 _ (omega arith) (omega arith) (omega arith)
trap_is CallDepth = is_routine _ 0 2 _ (omega arith) (omega arith) (omega arith)
trap_is NilDereference = is_routine _ 0 2 _ (omega arith) (omega arith) (omega arith)
trap_is OutOfMemory = is_routine _ 0 2 _ (omega arith) (omega arith) (omega arith)

-- they call nothing, so one rank serves all
abbrev rank : ℕ → ℕ
rank number = ROUTINE_CHAIN

calls_nothing : (p : WordProc) → most_called rank p.lines ≡ 0 → is_counted p.kind ≡ false → suc (most_called rank p.lines) ≤ ROUTINE_CHAIN
calls_nothing p e f = omega (arith, e)

-- ---- behind the procedures of a program

abbrev code : WordCode
code = record { procs = routines; statics = statics }

module _ (law : MemoryLaw) (live : Lives) (program : WordCode) (apart : AreApart program.procs routines) where
  abbrev later_by : ℕ
  later_by = length program.statics

  abbrev procs : List WordProc
  procs = (joined program code).procs

  -- found by its number
  behind : (p : WordProc) (tail : List WordProc) → from_proc p.number routines ≡ p ∷ tail
      → from_proc p.number procs ≡ from_proc p.number (all_moved later_by routines)
  behind p tail e = found_last p.number program.procs (all_moved later_by routines) (free_of p.number program.procs routines p tail e apart)

  trap_there : (trap : Trap) (built : is_built trap ≡ true)
      → IsKept live procs (routines_at program) statics (promised (routines_at program) (WritesTrap trap built))
  trap_there Overflow built = trap_kept live procs later_by _ Overflow built (behind (trap_routine Overflow) _ refl)
  trap_there DivisionByZero built = trap_kept live procs later_by _ DivisionByZero built (behind (trap_routine DivisionByZero) _ refl)
  trap_there IndexOutOfBounds built = trap_kept live procs later_by _ IndexOutOfBounds built (behind (trap_routine IndexOutOfBounds) _ refl)
  trap_there OutOfRange built = trap_kept live procs later_by _ OutOfRange built (behind (trap_routine OutOfRange) _ refl)
  trap_there LengthChanged built = trap_kept live procs later_by _ LengthChanged built (behind (trap_routine LengthChanged) _ refl)
  trap_there CallDepth built = trap_kept live procs later_by _ CallDepth built (behind (trap_routine CallDepth) _ refl)
  trap_there NilDereference built = absurd (true≢false (sym built))
  trap_there OutOfMemory built = absurd (true≢false (sym built))

  kept : (name : RoutineName) → IsKept live procs (routines_at program) statics (promised (routines_at program) name)
  kept Copies = copy_kept law live procs later_by (routines_at program) statics _ (behind (routine COPY 3 7 copy_lines) _ refl)
  kept Clears = clear_kept law live procs later_by (routines_at program) statics _ (behind (routine CLEAR 2 5 clear_lines) _ refl)
  kept Swaps = swap_kept law live procs later_by (routines_at program) statics _ (behind (routine SWAP 3 8 swap_lines) _ refl)
  kept WritesNumber = number_kept law live procs later_by _ (behind (routine NUMBER 1 7 number_lines) _ refl)
  kept (WritesTrap trap built) = trap_there trap built

is_runtime : MemoryLaw → IsRuntime code
is_runtime law = record {
  formed = refl;
  routines = (
    is_routine COPY 3 7 copy_lines (omega arith) (omega arith) (omega arith),
    (
      is_routine CLEAR 2 5 clear_lines (omega arith) (omega arith) (omega arith),
      (
        is_routine SWAP 3 8 swap_lines (omega arith) (omega arith) (omega arith),
        (
          is_routine NUMBER 1 7 number_lines (omega arith) (omega arith) (omega arith),
          (
            trap_is Overflow,
            (
              trap_is DivisionByZero,
              (trap_is IndexOutOfBounds, (trap_is OutOfRange, (trap_is LengthChanged, (trap_is CallDepth, tt)))),
            ),
          ),
        ),
      ),
    ),
  );
  rank = rank;
  ranked = (
    calls_nothing (routine COPY 3 7 copy_lines) refl,
    (
      calls_nothing (routine CLEAR 2 5 clear_lines) refl,
      (
        calls_nothing (routine SWAP 3 8 swap_lines) refl,
        (
          calls_nothing (routine NUMBER 1 7 number_lines) refl,
          (
            calls_nothing (trap_routine Overflow) refl,
            (
              calls_nothing (trap_routine DivisionByZero) refl,
              (
                calls_nothing (trap_routine IndexOutOfBounds) refl,
                (
                  calls_nothing (trap_routine OutOfRange) refl,
                  (calls_nothing (trap_routine LengthChanged) refl, (calls_nothing (trap_routine CallDepth) refl, tt)),
                ),
              ),
            ),
          ),
        ),
      ),
    ),
  );
  chain = λ number. omega arith;
  weight = omega arith;
  whole = refl;
  data_least = omega arith;
  data_most = omega arith;
  kept = λ live program apart whole name. kept law live program apart name;
}

pub runtime_is : MemoryLaw → (all : List WordProc) (bytes : List ℕ) → all ≡ routines → bytes ≡ statics
    → IsRuntime (record { procs = all; statics = bytes })
runtime_is law all bytes e f =
    subst (λ ps. IsRuntime (record { procs = ps; statics = bytes })) (sym e)
    (subst (λ bs. IsRuntime (record { procs = routines; statics = bs })) (sym f) (is_runtime law))
