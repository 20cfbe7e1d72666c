-- The procedures that calls can reach from the start code, and the code with these alone.
use Rattle.std.specs.Prelude.{◌≡◌, ℕ, Bool, true, false, ◌||◌, nat_eq, if◌then◌else◌, List, [], ◌∷◌, Option, Some, None}
use Rattle.word_code.specs.declared.word.WordInstr.{WordInstr}
use Rattle.word_code.specs.declared.word.WordProc.{WordProc}
use Rattle.word_code.specs.declared.word.WordCode.{WordCode}
use Rattle.word_code.specs.Words.{callee_of, from_proc}
use Rattle.number_sets.specs.Numbers.{is_among}

abbrev pub is_callee : ℕ → Option ℕ → Bool
is_callee number None = false
is_callee number (Some callee) = nat_eq number callee

-- one of these lines calls the procedure of that number
abbrev pub calls : ℕ → List WordInstr → Bool
calls number [] = false
calls number (line ∷ lines) = is_callee number (callee_of line) || calls number lines

-- the lines of the first of these procedures
abbrev pub lines_from : List WordProc → List WordInstr
lines_from [] = []
lines_from (p ∷ procs) = p.lines

-- the start code's number, and each that is called by the procedure of one that is reached
pub data IsReached (procs : List WordProc) : ℕ → Type 0 where
  the_start : IsReached procs 0
  a_call : (caller callee : ℕ) → IsReached procs caller → calls callee (lines_from (from_proc caller procs)) ≡ true → IsReached procs callee

-- these are the numbers that are reached
pub record AreReached (procs : List WordProc) (numbers : List ℕ) : Type 0 where
  pub all : (number : ℕ) → IsReached procs number → is_among number numbers ≡ true
  pub only : (number : ℕ) → is_among number numbers ≡ true → IsReached procs number

-- the procedures that have one of these numbers
abbrev pub kept : (numbers : List ℕ) → List WordProc → List WordProc
kept numbers [] = []
kept numbers (p ∷ procs) = if is_among p.number numbers then p ∷ kept numbers procs else kept numbers procs

-- the code has the procedures that are reached, and the data of the other
pub record IsPruned (code pruned : WordCode) : Type 0 where
  pub numbers : List ℕ
  pub reached : AreReached code.procs numbers
  pub procs : pruned.procs ≡ kept numbers code.procs
  pub statics : pruned.statics ≡ code.statics
