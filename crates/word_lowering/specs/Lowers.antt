-- What word code has to do with the block code that it comes from.
--
--     block code ──words──> word code ──join──> word code with routines
--         │ block_meaning                           │ word_meaning
--         └────────────────── Agrees ───────────────┘        paced by WORD_PACE
use Rattle.std.specs.Prelude.{◌≡◌, ◌≤◌, ◌+◌, ◌*◌, ◌%◌, ℕ, true, false, List, [], ◌∷◌, ◌++◌, length, None}
use Rattle.arc_base.specs.Behaviour.{Agrees, Sound, no_objects}
use Rattle.arc_base.specs.Pace.{PacedFrom}
use Rattle.nim_types.specs.declared.types.TheConstants.{WORD_BYTES, LIST_BYTES}
use Rattle.nim_types.specs.declared.types.TypeDef.{TypeDef}
use Rattle.rv32_isa.specs.Machine.{Lives}
use Rattle.flat_code.specs.declared.block.BlockLine.{BlockLine}
use Rattle.flat_code.specs.declared.code.Code.{Code}
use Rattle.flat_code.specs.declared.code.CodeProc.{CodeProc}
use Rattle.flat_code.specs.Codes.{hooks_of, places_of, waiting_in, AreNone, block_plain, block_meaning, block_within}
use Rattle.flat_code.specs.Fits.{code_fits}
use Rattle.flat_code.specs.Running.{ShowsAlike}
use Rattle.flat_code.specs.Scene.{known_in}
use Rattle.flat_code.specs.Sizes.{code_weight, data_bytes}
use Rattle.flat_code.specs.Waits.{AllWaitOnce, AllWaitRight}
use Rattle.word_code.specs.declared.routine.TheConstants.{RUNTIME_DATA}
use Rattle.word_code.specs.declared.word.WordProc.{WordProc}
use Rattle.word_code.specs.declared.word.WordCode.{WordCode}
use Rattle.word_code.specs.Memory.{Memory, as_state}
use Rattle.word_code.specs.Sizes.{word_weight, AreRanked}
use Rattle.word_code.specs.Words.{is_counted, have_no_hooks, is_word_code, word_meaning, word_by_units, Fresh}
use Rattle.word_code.specs.Joined.{joined, AreApart, HaveRoom}
use Rattle.heap_memory.specs.declared.numbers.TheConstants.{HEAP_DATA}
use Rattle.hook_code.specs.declared.numbers.TheConstants.{HOOK_VARIABLES}
use Rattle.hook_code.specs.HookCode.{procs_in}
use Rattle.word_lowering.specs.declared.lowering.TheConstants.{WORD_LATE, WORD_PACE, MOST_HEAP, MOST_CHAIN, START_WEIGHT, MORE_DATA}
use Rattle.word_lowering.specs.declared.may_lower.TheConstants.{MOST_ROOM, MOST_VARS, MOST_FRAME, MOST_DATA}
use Rattle.word_lowering.specs.Lowered.{lowered}
use Rattle.word_lowering.specs.MayLower.{may_lower}
use Rattle.word_lowering.specs.Reads.{all_reads}
use Rattle.word_lowering.specs.Runtimes.{Runtimes, with_runtimes}

-- what doesn't count, a routine or a hook of a type, has few variables and small places
pub record IsSmallHelper (p : WordProc) : Type 0 where
  pub room : p.room ≤ LIST_BYTES
  pub variables : p.vars ≤ HOOK_VARIABLES

-- places whose values may wait, of all procedures
abbrev pub all_waiting : List (CodeProc BlockLine) → ℕ
all_waiting [] = 0
all_waiting (p ∷ procs) = waiting_in p.places + all_waiting procs

pub record IsSmall (p : WordProc) : Type 0 where
  pub room : p.room ≤ MOST_ROOM
  pub variables : p.vars ≤ MOST_VARS
  pub together : WORD_BYTES * p.vars + p.room ≤ MOST_FRAME
  pub uncounted : is_counted p.kind ≡ false → IsSmallHelper p

abbrev pub AreSmall : List WordProc → Type 0
AreSmall [] = Unit {0}
AreSmall (p ∷ procs) = IsSmall p × AreSmall procs

-- A program has no live objects yet, so there are none in any memory of word code.
abbrev pub HasNoObjects : Lives → Type 0
HasNoObjects live = (m : Memory) → live (as_state m) ≡ no_objects

-- Its lines fit the types of its places, and what they give, take or end waits where they say, nothing else at the same node.
pub record IsFitting (table : List TypeDef) (blocks : Code BlockLine) : Type 0 where
  pub fits : code_fits block_plain (known_in table) blocks.procs ≡ true
  pub waits : AllWaitRight block_plain (known_in table) blocks.procs
  pub once : AllWaitOnce (places_of blocks)

-- a procedure without lines is no hook of a user, whose calls would be seen
abbrev pub AreSilent : List (CodeProc BlockLine) → Type 0
AreSilent [] = Unit {0}
AreSilent (p ∷ procs) = (p.lines ≡ [] → p.hook ≡ None) × AreSilent procs

-- Where block code fits, each hook has lines, and it never comes to a fault, whole word code does the same on each input, with each heap that the
-- machine has and each stack, whatever bytes new places bring.
pub record Lowers (table : List TypeDef) (blocks : Code BlockLine) (code : WordCode) : Type 0 where
  pub agrees : (live : Lives) (fresh : Fresh) (heap stack : ℕ) (input : List ℕ) → HasNoObjects live → heap ≤ MOST_HEAP → IsFitting table blocks
      → AreSilent blocks.procs → Sound (block_meaning table blocks heap input)
      → Agrees (word_meaning live code fresh heap stack input) (block_meaning table blocks heap input)
  pub paced : (live : Lives) (fresh : Fresh) (heap stack : ℕ) (input : List ℕ) → HasNoObjects live → heap ≤ MOST_HEAP → IsFitting table blocks
      → AreSilent blocks.procs → Sound (block_meaning table blocks heap input)
      → PacedFrom WORD_PACE WORD_LATE (word_meaning live code fresh heap stack input) (block_meaning table blocks heap input)
  -- Where turns and calls may spend so many units alone, it shows from some moment on what block code shows from some moment on; and it never does
  -- more work than so many times that of block code at some moment.
  pub exact : (live : Lives) (fresh : Fresh) (heap stack : ℕ) (input : List ℕ) → HasNoObjects live → heap ≤ MOST_HEAP → IsFitting table blocks
      → AreSilent blocks.procs → Sound (block_meaning table blocks heap input) → (units : ℕ)
      → (from lines : ℕ) × ((more : ℕ) →
      ShowsAlike (word_by_units live code fresh heap stack input units (from + more)) (block_within table blocks units heap input (lines + more)))
  pub bounded : (live : Lives) (fresh : Fresh) (heap stack : ℕ) (input : List ℕ) → HasNoObjects live → heap ≤ MOST_HEAP → IsFitting table blocks
      → AreSilent blocks.procs → Sound (block_meaning table blocks heap input) → (units : ℕ)
      → (n : ℕ) → (m : ℕ) × ((word_by_units live code fresh heap stack input units n).work ≤ WORD_PACE *
      ((block_within table blocks units heap input m).work + WORD_LATE))
  -- it is well formed, whatever block code does
  pub formed : is_word_code code ≡ true
  -- Frames and places of 2,001 calls have room in a machine's stack, with those of routines: what doesn't count calls only what has a lower rank.
  pub rank : ℕ → ℕ
  pub ranked : AreRanked rank code.procs
  pub chain : (number : ℕ) → rank number ≤ MOST_CHAIN
  pub small : AreSmall code.procs
  -- data is whole words, and as much as an image has
  pub whole : length code.statics % 4 ≡ 0
  pub data_most : length code.statics ≤ HEAP_DATA + MOST_DATA + RUNTIME_DATA
  -- a hook is one of block code
  pub hooks : AreNone (hooks_of blocks) → have_no_hooks code.procs ≡ true

-- word code that calls routines by their numbers, and lowers block code with all routines that it is joined with
pub record LowersWithRuntime (table : List TypeDef) (blocks : Code BlockLine) (code : WordCode) : Type 0 where
  pub apart : (r : Runtimes) → AreApart r.heap.procs code.procs × AreApart (joined r.heap code).procs r.others.procs
  pub room : HaveRoom HEAP_DATA code.procs
  pub lowers : (r : Runtimes) → Lowers table blocks (with_runtimes r code)
  -- its own procedures, none of which reads the input, and behind them the hooks of types
  pub own : List WordProc
  pub first : ℕ
  pub procs : code.procs ≡ own ++ procs_in table first
  pub quiet : all_reads own ≡ 0
  -- its own lines, and one for each of its procedures, by what block code weighs, and one for each of its values that may wait
  pub weight : word_weight own ≤ code_weight block_plain blocks.procs + all_waiting blocks.procs + START_WEIGHT
  -- its own data is whole words, by what block code's is
  pub whole : length code.statics % 4 ≡ 0
  pub data_size : length code.statics ≤ data_bytes block_plain table blocks.procs + MORE_DATA

-- the code that is given, where it is given
pub record IsLowered (table : List TypeDef) (blocks : Code BlockLine) (code : WordCode) : Type 0 where
  pub is : code ≡ lowered table blocks
  pub may : may_lower table blocks ≡ true
