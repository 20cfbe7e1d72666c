-- How many bytes code has at most, by its lines and by how many instructions reach a word of a frame: one where it is near, else three. All branches
-- count as those that are laid out as too far.
use Rattle.std.specs.Prelude.{ℕ, suc, ◌+◌, ◌*◌, nat_le, if◌then◌else◌, Bool, ◌&&◌, List, [], ◌∷◌}
use Rattle.word_code.specs.declared.word.WordInstr.{WordInstr}
use Rattle.word_code.specs.declared.word.WordInstr.TheVariants as word
use Rattle.word_code.specs.declared.word.WordProc.{WordProc}
use Rattle.rv32_codegen.specs.declared.label_code.TheConstants.{BYTES_OF_START, NEAR_BYTES}

abbrev pub line_bytes : (reach : ℕ) → WordInstr → ℕ
line_bytes n (word.Label name) = 0
line_bytes n word.Spend = 0
line_bytes n (word.SpendIf test left right) = 0
line_bytes n (word.Constant to value) = 8 + 4 * n
line_bytes n (word.Copy to from) = 8 * n
line_bytes n (word.Compute to operation left right) = 4 + 12 * n
line_bytes n (word.Sum to from value) = 12 + 8 * n
line_bytes n (word.Place to at) = 12 + 4 * n
line_bytes n (word.Datum to at) = 8 + 4 * n
line_bytes n (word.Load to address size) = 4 + 8 * n
line_bytes n (word.Store address from size) = 4 + 8 * n
line_bytes n (word.Jump to) = 4
line_bytes n (word.Branch test left right to) = 8 + 8 * n
line_bytes n (word.Argument index from) = 12 + 4 * n
line_bytes n (word.Call to callee) = 4 + 4 * n
line_bytes n (word.Return from) = 8 + 12 * n
line_bytes n (word.Read to address len) = 12 + 12 * n
line_bytes n (word.Write stream address len) = 12 + 8 * n
line_bytes n (word.Exit status) = 8 + 4 * n

abbrev pub lines_bytes : (reach : ℕ) → List WordInstr → ℕ
lines_bytes n [] = 0
lines_bytes n (line ∷ lines) = line_bytes n line + lines_bytes n lines

-- with what makes frame and places, and the end
abbrev pub bytes_by : (reach : ℕ) → WordProc → ℕ
bytes_by n p = 8 + 8 * n + lines_bytes n p.lines

-- one instruction reaches each word of a frame, and makes the frame and the places
abbrev pub is_near_proc : WordProc → Bool
is_near_proc p = nat_le (4 * suc p.vars) NEAR_BYTES && nat_le p.room NEAR_BYTES

abbrev pub proc_bytes : WordProc → ℕ
proc_bytes p = if is_near_proc p then bytes_by 1 p else bytes_by 3 p

abbrev pub procs_bytes : List WordProc → ℕ
procs_bytes [] = 0
procs_bytes (p ∷ procs) = proc_bytes p + procs_bytes procs

abbrev pub most_bytes : List WordProc → ℕ
most_bytes procs = BYTES_OF_START + procs_bytes procs
