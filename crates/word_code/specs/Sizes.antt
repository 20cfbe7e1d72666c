-- How much word code there is, how many bytes the variables of a procedure take, and how deep calls go that don't count: what passes bound.
use Rattle.std.specs.Prelude.{◌≡◌, ◌≤◌, ℕ, suc, ◌+◌, ◌*◌, nat_le, Bool, false, List, [], ◌∷◌, length}
use Rattle.nim_types.specs.declared.types.TheConstants.{WORD_BYTES}
use Rattle.word_code.specs.declared.word.WordProc.{WordProc}
use Rattle.word_code.specs.Words.{is_counted, most_called, most_chain, chain, longest}

-- its lines, and one more for each procedure
abbrev pub word_weight : List WordProc → ℕ
word_weight [] = 0
word_weight (p ∷ procs) = suc (length p.lines) + word_weight procs

-- its lines
abbrev pub word_line_count : List WordProc → ℕ
word_line_count [] = 0
word_line_count (p ∷ procs) = length p.lines + word_line_count procs

-- the bytes of a procedure's variables, a word each, and of its places
abbrev pub variable_bytes : WordProc → ℕ
variable_bytes p = WORD_BYTES * p.vars + p.room

-- ---- chains of calls of procedures that don't count

-- a procedure is one level of its chain
abbrev pub chain_level : WordProc → ℕ
chain_level p = 1

-- the levels of the longest one
abbrev pub longest_chain : List WordProc → ℕ
longest_chain procs = longest procs chain_level

-- each procedure that doesn't count calls only what has a lower rank
abbrev pub AreRanked : (rank : ℕ → ℕ) → List WordProc → Type 0
AreRanked rank [] = Unit {0}
AreRanked rank (p ∷ procs) = (is_counted p.kind ≡ false → suc (most_called rank p.lines) ≤ rank p.number) × AreRanked rank procs

-- they call each other in no circle: no chain has more levels than there are procedures
abbrev pub has_no_circle : List WordProc → Bool
has_no_circle procs = nat_le (most_chain (chain procs chain_level (suc (length procs))) procs) (length procs)
