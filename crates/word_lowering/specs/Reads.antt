-- How many lines of word code read the input. Those of a program call a routine for that.
use Rattle.std.specs.Prelude.{ℕ, ◌+◌, Bool, true, false, if◌then◌else◌, List, [], ◌∷◌}
use Rattle.word_code.specs.declared.word.WordInstr.{WordInstr}
use Rattle.word_code.specs.declared.word.WordInstr.TheVariants.{Read}
use Rattle.word_code.specs.declared.word.WordProc.{WordProc}

abbrev pub is_read : WordInstr → Bool
is_read (Read to address len) = true
is_read line = false

abbrev pub reads_in : List WordInstr → ℕ
reads_in [] = 0
reads_in (line ∷ lines) = (if is_read line then 1 else 0) + reads_in lines

abbrev pub all_reads : List WordProc → ℕ
all_reads [] = 0
all_reads (p ∷ procs) = reads_in p.lines + all_reads procs
