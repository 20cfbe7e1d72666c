-- What a routine promises to whoever calls it: whatever the state before, it comes back to its caller, or ends the program, with memory,
-- variables and output as it says, within so many lines.
use Rattle.std.specs.Prelude.{◌≡◌, ◌≤◌, ℕ, suc, ◌+◌, List, [], ◌∷◌, length, drop, Option, Some, None, true}
use Rattle.arc_base.specs.Event.{Event}
use Rattle.arc_base.specs.Simulation.{Steps, Stops}
use Rattle.rv32_isa.specs.Machine.{Lives}
use Rattle.rv32_isa.specs.Regions.{HasRegions}
use Rattle.word_code.specs.declared.routine.TheConstants.{SCRATCH_BYTES}
use Rattle.word_code.specs.declared.word.WordInstr.{WordInstr}
use Rattle.word_code.specs.declared.word.WordInstr.TheVariants.{Call}
use Rattle.word_code.specs.declared.word.WordProc.{WordProc}
use Rattle.word_code.specs.Memory.{Memory, as_state, bytes_at, may_fill}
use Rattle.word_code.specs.Words.{Vars, no_words, put, WordState, Fresh, step_of}

-- One routine. A `Use` is what one of its calls is about: arguments, and what is known where it is called.
pub record Routine : Type 1 where
  pub number : ℕ
  pub Use : Type 0
  -- the words that it is given
  pub takes : Use → List ℕ
  -- memory where it may be called
  pub may : Use → Memory → Type 0
  -- what it shows
  pub shows : Use → List Event
  -- the status with which it ends the program, unless it comes back
  pub ends : Use → Option ℕ
  -- memory before it, and behind it
  pub leaves : Use → Memory → Memory → Type 0
  -- what it leaves of the input
  pub reads : Use → List ℕ → List ℕ
  -- the word that it gives back, with memory behind it
  pub gives : Use → Memory → ℕ → Type 0
  -- at most so many lines, with the call
  pub lines : Use → ℕ

-- ---- a call

-- words that are given, from an index on
abbrev pub AreGiven : Vars → (index : ℕ) → List ℕ → Type 0
AreGiven given index [] = Unit {0}
AreGiven given index (word ∷ words) = (given index ≡ Some word) × AreGiven given (suc index) words

-- a routine is called next with these words, and what it gives back goes to a variable
pub record IsCalling (number : ℕ) (words : List ℕ) (to : ℕ) (rest : List WordInstr) (s : WordState) : Type 0 where
  pub next : s.frame.left ≡ Call to number ∷ rest
  pub given : AreGiven s.frame.given 0 words

-- the caller goes on with a word, and its other variables as they were
abbrev pub goes_on : WordState → (to word : ℕ) → (rest : List WordInstr) → Memory → (input : List ℕ) → WordState
goes_on s to word rest memory input = record {
  units = s.units;
  memory = memory;
  input = input;
  frame = record s.frame { left = rest; vars = put s.frame.vars to word; given = no_words; awaits = to };
  callers = s.callers;
}

-- The data of routines stands at an address: its first bytes may be written, and those behind them are as at the start.
pub record HasData (at : ℕ) (statics : List ℕ) (m : Memory) : Type 0 where
  pub scratch : may_fill m at SCRATCH_BYTES ≡ true
  pub fixed : bytes_at m (at + SCRATCH_BYTES) (length (drop SCRATCH_BYTES statics)) ≡ Some (drop SCRATCH_BYTES statics)

-- ---- the promise is kept among these procedures, where the data of routines stands at an address

module _ (live : Lives) (procs : List WordProc) where
  pub record ComesBack (r : Routine) (u : r.Use) (s : WordState) (to : ℕ) (rest : List WordInstr) : Type 0 where
    pub memory : Memory
    pub word : ℕ
    pub leaves : r.leaves u s.memory memory
    pub gives : r.gives u memory word
    pub lines : ℕ
    pub few : lines ≤ r.lines u
    -- whatever bytes new places bring
    pub steps : (fresh : Fresh) (before : ℕ) → (behind : ℕ)
        × Steps (step_of live procs fresh) lines (before, s) (r.shows u) lines (behind, goes_on s to word rest memory (r.reads u s.input))

  pub record EndsProgram (r : Routine) (u : r.Use) (s : WordState) (status : ℕ) : Type 0 where
    pub memory : Memory
    pub leaves : r.leaves u s.memory memory
    pub stops : (fresh : Fresh) (before : ℕ) → Stops (step_of live procs fresh) (before, s) (r.shows u) (r.lines u) status (live (as_state memory))

  abbrev pub Comes : (r : Routine) → r.Use → WordState → (to : ℕ) → List WordInstr → Option ℕ → Type 0
  Comes r u s to rest None = ComesBack r u s to rest
  Comes r u s to rest (Some status) = EndsProgram r u s status

  abbrev pub IsKept : (at : ℕ) → (statics : List ℕ) → Routine → Type 0
  IsKept at statics r = (u : r.Use) (s : WordState) (to : ℕ) (rest : List WordInstr) → IsCalling r.number (r.takes u) to rest s
      → HasRegions (as_state s.memory) → HasData at statics s.memory → r.may u s.memory → Comes r u s to rest (r.ends u)
