-- How many bytes the code of a program becomes with its runtime, whose procedures have near frames.
use Rattle.std.proofs.Common.{◌≡◌, ℕ, suc, ◌+◌, ◌*◌, ◌≤◌, List, [], ◌∷◌, ◌++◌, length, ap, arith}
use Rattle.std.specs.Prelude.{nat_le, if◌then◌else◌}
use Rattle.std.proofs.lemmas.Bool.{and_from, cond_both, cond-true, le-leb}
use Rattle.word_code.specs.declared.word.WordInstr.{WordInstr}
use Rattle.word_code.specs.declared.word.WordInstr.TheVariants as word
use Rattle.word_code.specs.declared.word.WordProc.{WordProc}
use Rattle.word_code.specs.Joined.{moved, all_moved}
use Rattle.word_code.specs.Runtime.{AreRoutines, IsRoutine}
use Rattle.word_code.specs.Sizes.{word_weight}
use Rattle.word_lowering.specs.Reads.{is_read, reads_in, all_reads}
use Rattle.rv32_codegen.specs.LineBytes.{line_bytes, lines_bytes, bytes_by, is_near_proc, proc_bytes, procs_bytes}

-- lines of any frame, and of a near one
far_line : (line : WordInstr) → line_bytes 3 line ≤ 44 + 4 * (if is_read line then 1 else 0)
far_line (word.Label name) = omega arith
far_line word.Spend = omega arith
far_line (word.SpendIf test left right) = omega arith
far_line (word.Constant to value) = omega arith
far_line (word.Copy to from) = omega arith
far_line (word.Compute to operation left right) = omega arith
far_line (word.Sum to from value) = omega arith
far_line (word.Place to at) = omega arith
far_line (word.Datum to at) = omega arith
far_line (word.Load to address size) = omega arith
far_line (word.Store address from size) = omega arith
far_line (word.Jump to) = omega arith
far_line (word.Branch test left right to) = omega arith
far_line (word.Argument index from) = omega arith
far_line (word.Call to callee) = omega arith
far_line (word.Return from) = omega arith
far_line (word.Read to address len) = omega arith
far_line (word.Write stream address len) = omega arith
far_line (word.Exit status) = omega arith

near_line : (line : WordInstr) → line_bytes 1 line ≤ 24
near_line (word.Label name) = omega arith
near_line word.Spend = omega arith
near_line (word.SpendIf test left right) = omega arith
near_line (word.Constant to value) = omega arith
near_line (word.Copy to from) = omega arith
near_line (word.Compute to operation left right) = omega arith
near_line (word.Sum to from value) = omega arith
near_line (word.Place to at) = omega arith
near_line (word.Datum to at) = omega arith
near_line (word.Load to address size) = omega arith
near_line (word.Store address from size) = omega arith
near_line (word.Jump to) = omega arith
near_line (word.Branch test left right to) = omega arith
near_line (word.Argument index from) = omega arith
near_line (word.Call to callee) = omega arith
near_line (word.Return from) = omega arith
near_line (word.Read to address len) = omega arith
near_line (word.Write stream address len) = omega arith
near_line (word.Exit status) = omega arith

far_lines : (lines : List WordInstr) → lines_bytes 3 lines ≤ 44 * length lines + 4 * reads_in lines
far_lines [] = omega arith
far_lines (line ∷ lines) = let l = far_line line in let r = far_lines lines in omega (arith, l, r)

near_lines : (lines : List WordInstr) → lines_bytes 1 lines ≤ 24 * length lines
near_lines [] = omega arith
near_lines (line ∷ lines) = let l = near_line line in let r = near_lines lines in omega (arith, l, r)

-- a procedure of any frame, and one with a near frame
far_most : (p : WordProc) → proc_bytes p ≤ 44 * suc (length p.lines) + 4 * reads_in p.lines
far_most p =
    cond_both (is_near_proc p) (bytes_by 1 p) (bytes_by 3 p) (λ bytes. bytes ≤ 44 * suc (length p.lines) + 4 * reads_in p.lines)
    (λ near. let n = near_lines p.lines in omega (arith, n)) (λ far. let f = far_lines p.lines in omega (arith, f))

near_most : (p : WordProc) → IsRoutine p → proc_bytes p ≤ 24 * suc (length p.lines)
near_most p routine =
    let few = routine.small.variables in
    let none = routine.small.room in
    let near = and_from (nat_le (4 * suc p.vars) 2047) (nat_le p.room 2047) (le-leb (4 * suc p.vars) 2047 (omega (arith, few)))
    (le-leb p.room 2047 (omega (arith, none))) in
    let bytes = cond-true (is_near_proc p) (bytes_by 1 p) (bytes_by 3 p) near in
    let lines = near_lines p.lines in
    omega (arith, bytes, lines)

routines_most : (n : ℕ) (procs : List WordProc) → AreRoutines procs → procs_bytes (all_moved n procs) ≤ 24 * word_weight procs
routines_most n [] routines = omega arith
routines_most n (p ∷ procs) routines = omega (arith, near_most p routines.0, routines_most n procs routines.1)

both_bytes : (n : ℕ) (procs routines : List WordProc) → AreRoutines routines →
    procs_bytes (procs ++ all_moved n routines) ≤ procs_bytes procs + 24 * word_weight routines
both_bytes n [] others routines = omega (arith, routines_most n others routines)
both_bytes n (p ∷ procs) others routines = omega (arith, both_bytes n procs others routines)

-- a program's own, in front of hooks
own_bytes : (k : ℕ) (own hooks : List WordProc) →
    procs_bytes (all_moved k (own ++ hooks)) ≤ 44 * word_weight own + 4 * all_reads own + procs_bytes (all_moved k hooks)
own_bytes k [] hooks = omega arith
own_bytes k (p ∷ own) hooks = omega (arith, far_most (moved k p), own_bytes k own hooks)

heap_bytes : (heap procs : List WordProc) → AreRoutines heap → procs_bytes (heap ++ procs) ≤ 24 * word_weight heap + procs_bytes procs
heap_bytes [] procs heap = omega arith
heap_bytes (p ∷ ps) procs heap = omega (arith, near_most p heap.0, heap_bytes ps procs heap.1)

-- behind routines, and in front of others
pub joined_bytes : (n k : ℕ) (heap procs own hooks routines : List WordProc) → procs ≡ own ++ hooks → AreRoutines heap → AreRoutines routines →
    procs_bytes ((heap ++ all_moved k procs) ++ all_moved n routines)
    ≤ 24 * word_weight heap + (44 * word_weight own + 4 * all_reads own + procs_bytes (all_moved k hooks) + 24 * word_weight routines)
joined_bytes n k heap procs own hooks routines is are others =
    let front = heap_bytes heap (all_moved k procs) are in
    let whole = both_bytes n (heap ++ all_moved k procs) routines others in
    let program = own_bytes k own hooks in
    let same : procs_bytes (all_moved k procs) ≡ procs_bytes (all_moved k (own ++ hooks)) = ap (λ ps. procs_bytes (all_moved k ps)) is in
    omega (arith, front, whole, program, same)
