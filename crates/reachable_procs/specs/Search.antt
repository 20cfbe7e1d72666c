-- How the procedures that are reached are searched. No public contract speaks of it.
use Rattle.std.specs.Prelude.{◌≡◌, ◌<◌, ℕ, true, nat_eq, List, [], ◌∷◌, drop, slice_get, Option, Some, None}
use Rattle.std.specs.HashMap.{HashMap, get}
use Rattle.word_code.specs.declared.word.WordInstr.{WordInstr}
use Rattle.word_code.specs.declared.word.WordProc.{WordProc}
use Rattle.word_code.specs.Words.{callee_of, from_proc}
use Rattle.number_sets.specs.Numbers.{is_among, with_number}
use Rattle.reachable_procs.specs.Reachable.{calls, lines_from, IsReached}

-- the procedures from a position on
abbrev pub from_there : Option ℕ → List WordProc → List WordProc
from_there None procs = []
from_there (Some at) procs = drop at procs

-- the index says where the first procedure of each number stands, of those from a position on
abbrev pub LeadsFrom : {S : Type 0} → HashMap ℕ ℕ S → (from : ℕ) → List WordProc → Type 0
LeadsFrom index from procs = (number : ℕ) → from_there (get nat_eq index number) procs ≡ from_proc number (drop from procs)

abbrev pub IsIndex : {S : Type 0} → HashMap ℕ ℕ S → List WordProc → Type 0
IsIndex index procs = LeadsFrom index 0 procs

-- with the number that a line calls
abbrev pub with_callee : Option ℕ → List ℕ → List ℕ
with_callee None numbers = numbers
with_callee (Some callee) numbers = with_number callee numbers

-- with those that these lines call
abbrev pub with_called : List WordInstr → List ℕ → List ℕ
with_called [] numbers = numbers
with_called (line ∷ lines) numbers = with_called lines (with_callee (callee_of line) numbers)

-- All numbers that were found are reached, the start code is found, and so is what the first ones call.
pub record Searches (procs : List WordProc) (next : ℕ) (numbers : List ℕ) : Type 0 where
  pub start : is_among 0 numbers ≡ true
  pub only : (number : ℕ) → is_among number numbers ≡ true → IsReached procs number
  pub done : (i caller callee : ℕ) → i < next → slice_get numbers i ≡ Some caller → calls callee (lines_from (from_proc caller procs)) ≡ true
      → is_among callee numbers ≡ true
