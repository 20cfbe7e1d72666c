-- Word code of routines, with which a program's word code is joined.
--
--     program's word code ──join──┐
--     runtime's word code ────────┴──> word code of a whole program
use Rattle.std.specs.Prelude.{◌≡◌, ◌<◌, ◌≤◌, ℕ, ◌+◌, ◌%◌, true, List, [], ◌∷◌, length}
use Rattle.rv32_isa.specs.Machine.{Lives}
use Rattle.word_code.specs.declared.routine.TheConstants.{PROCS_FROM, ROUTINE_ROOM, ROUTINE_VARIABLES, ROUTINE_CHAIN, RUNTIME_WEIGHT, RUNTIME_DATA}
use Rattle.word_code.specs.declared.routine.TheConstants.{SCRATCH_BYTES}
use Rattle.word_code.specs.declared.word.ProcKind.TheVariants.{Uncounted}
use Rattle.word_code.specs.declared.word.WordProc.{WordProc}
use Rattle.word_code.specs.declared.word.WordCode.{WordCode}
use Rattle.word_code.specs.Memory.{own_data_at}
use Rattle.word_code.specs.Words.{are_procs}
use Rattle.word_code.specs.Sizes.{AreRanked, word_weight}
use Rattle.word_code.specs.Joined.{joined, AreApart}
use Rattle.word_code.specs.Routines.{IsKept}
use Rattle.word_code.specs.RoutineTable.{RoutineName, routine}

-- what doesn't count has small places and few variables
pub record IsSmallRoutine (p : WordProc) : Type 0 where
  pub room : p.room ≤ ROUTINE_ROOM
  pub variables : p.vars ≤ ROUTINE_VARIABLES

-- a procedure of a runtime, with one of the numbers between the start code's and those of a program's procedures, and all data of the runtime
pub record IsRoutine (p : WordProc) : Type 0 where
  pub first : 0 < p.number
  pub last : p.number < PROCS_FROM
  pub kind : p.kind ≡ Uncounted
  pub whole_data : p.data_from ≡ 0
  pub small : IsSmallRoutine p

abbrev pub AreRoutines : List WordProc → Type 0
AreRoutines [] = Unit {0}
AreRoutines (p ∷ procs) = IsRoutine p × AreRoutines procs

-- where the data of routines begins that stands behind a program's
abbrev pub routines_at : WordCode → ℕ
routines_at program = own_data_at + length program.statics

-- Its routines keep what they promise, whichever program they are joined with.
pub record IsRuntime (code : WordCode) : Type 0 where
  pub formed : are_procs code.procs ≡ true
  pub routines : AreRoutines code.procs
  -- each calls only what has a lower rank
  pub rank : ℕ → ℕ
  pub ranked : AreRanked rank code.procs
  pub chain : (number : ℕ) → rank number ≤ ROUTINE_CHAIN
  -- lines and procedures
  pub weight : word_weight code.procs ≤ RUNTIME_WEIGHT
  pub whole : length code.statics % 4 ≡ 0
  pub data_least : SCRATCH_BYTES ≤ length code.statics
  pub data_most : length code.statics ≤ RUNTIME_DATA
  pub kept : (live : Lives) (program : WordCode) → AreApart program.procs code.procs → length program.statics % 4 ≡ 0 → (name : RoutineName)
      → IsKept live (joined program code).procs (routines_at program) code.statics (routine (routines_at program) name)
