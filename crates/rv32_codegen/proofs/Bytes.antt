-- How many bytes the label code of word code has at most, where all branches are laid out as too far.
use Rattle.std.proofs.Common.{◌≡◌, ℕ, ◌+◌, ◌*◌, ◌≤◌, List, [], ◌∷◌, length, arith}
use Rattle.std.proofs.lemmas.Bool.{cond_both}
use Rattle.rv32_isa.specs.declared.instr.Instr.{Instr}
use Rattle.rv32_isa.specs.declared.instr.Instr.TheVariants.{Sw, Addi, Jalr, Ecall, Ebreak}
use Rattle.rv32_isa.specs.declared.label.LabelName.TheVariants.{Inner}
use Rattle.rv32_isa.specs.declared.label.LabelLine.{LabelLine}
use Rattle.rv32_isa.specs.declared.label.LabelLine.TheVariants.{Do, Branch}
use Rattle.word_code.specs.declared.word.WordInstr.{WordInstr}
use Rattle.word_code.specs.declared.word.WordInstr.TheVariants as word
use Rattle.word_code.specs.declared.word.WordProc.{WordProc}
use Rattle.reg_scan.specs.declared.homes.Homes.{Homes}
use Rattle.reg_scan.specs.Homes.{home_of, IsHomes}
use Rattle.rv32_codegen.specs.Code.{does, negative, constant, datum, sum, shift, save, operate, fetch, store, stream_number, bring, move, settle, give, target}
use Rattle.rv32_codegen.specs.Code.{left_of, right_of, argument_at, place_at, datum_at, compare, bring_both, move_range, keep, line_code, lines_code}
use Rattle.rv32_codegen.specs.Code.{is_leaf, restore, leave_code, proc_code, homes_code, code_of}
use Rattle.rv32_codegen.specs.Layout.{all_far, size}
use Rattle.rv32_codegen.specs.Lowering.{AllHomes}
use Rattle.rv32_codegen.specs.LineBytes.{line_bytes, lines_bytes, bytes_by, is_near_proc, proc_bytes, procs_bytes, most_bytes}
use Rattle.rv32_codegen.proofs.Chunks.{Few, few_constant, few_datum, few_sum, few_save, few_restore}
use Rattle.rv32_codegen.proofs.Reaches.{Reaches, near, far, bring_within, move_within, settle_within, give_within}

bytes-does : (is : List Instr) (k : List LabelLine) → size all_far (does is k) ≡ 4 * length is + size all_far k
bytes-does [] k = omega arith
bytes-does (i ∷ is) k = omega (arith, bytes-does is k)

-- where a word of the frame takes n instructions
module _ (n : ℕ) (h : Homes) (p : WordProc) (r : Reaches n h p) where
  few_bring : (other v : ℕ) → Few n (bring other (home_of h v))
  few_bring other v = bring_within n other (home_of h v) (r.homes v)

  few_move : (rd v : ℕ) → Few n (move rd (home_of h v))
  few_move rd v = move_within n rd (home_of h v) r.some (r.homes v)

  few_settle : (v : ℕ) → Few n (settle (home_of h v))
  few_settle v = settle_within n (home_of h v) (r.homes v)

  few_give : (rs v : ℕ) → Few n (give rs (home_of h v))
  few_give rs v = give_within n rs (home_of h v) r.some (r.homes v)

  both_bytes : (left right : ℕ) (k : List LabelLine) → size all_far (bring_both h left right k) ≤ 8 * n + size all_far k
  both_bytes left right k =
      omega (
        arith,
        bytes-does (bring 5 (home_of h left)) (does (bring 6 (home_of h right)) k),
        bytes-does (bring 6 (home_of h right)) k,
        few_bring 5 left,
        few_bring 6 right,
      )

  range_bytes : (a len : ℕ) (k : List LabelLine) → size all_far (move_range h a len k) ≤ 8 * n + size all_far k
  range_bytes a len k =
      omega (
        arith,
        bytes-does (move 11 (home_of h a)) (does (move 12 (home_of h len)) k),
        bytes-does (move 12 (home_of h len)) k,
        few_move 11 a,
        few_move 12 len,
      )

  -- so many in front of a variable's settling
  keep_bytes : (m to : ℕ) (is : List Instr) (k : List LabelLine) → Few m is → size all_far (does is (keep h to k)) ≤ 4 * m + (4 * n + size all_far k)
  keep_bytes m to is k few = omega (arith, few, bytes-does is (keep h to k), bytes-does (settle (home_of h to)) k, few_settle to)

  line_most : (l : WordInstr) (k : List LabelLine) → size all_far (line_code h p l k) ≤ line_bytes n l + size all_far k
  line_most (word.Label name) k = omega arith
  line_most word.Spend k = omega arith
  line_most (word.SpendIf test left right) k = omega arith
  line_most (word.Constant to value) k = omega (arith, keep_bytes 2 to (constant (target h to) value) k (few_constant (target h to) value))
  line_most (word.Copy to from) k = omega (arith, keep_bytes n to (move (target h to) (home_of h from)) k (few_move (target h to) from))
  line_most (word.Compute to o left right) k =
      let rest = Do (operate o (target h to) (left_of h left) (right_of h right)) ∷ keep h to k in
      omega (arith, both_bytes left right rest, bytes-does (settle (home_of h to)) k, few_settle to)
  line_most (word.Sum to from value) k =
      let rest = does (sum (target h to) (right_of h from) value) (keep h to k) in
      omega (
        arith,
        bytes-does (bring 6 (home_of h from)) rest,
        few_bring 6 from,
        keep_bytes 3 to (sum (target h to) (right_of h from) value) k (few_sum (target h to) (right_of h from) value),
      )
  line_most (word.Place to a) k =
      omega (arith, keep_bytes 3 to (sum (target h to) 3 (place_at p a)) k (few_sum (target h to) 3 (place_at p a)))
  line_most (word.Datum to a) k =
      omega (arith, keep_bytes 2 to (datum (target h to) (datum_at p a)) k (few_datum (target h to) (datum_at p a)))
  line_most (word.Load to a size) k =
      let rest = Do (fetch size (target h to) (left_of h a)) ∷ keep h to k in
      omega (arith, bytes-does (bring 5 (home_of h a)) rest, few_bring 5 a, bytes-does (settle (home_of h to)) k, few_settle to)
  line_most (word.Store a from size) k = omega (arith, both_bytes a from (Do (store size (left_of h a) (right_of h from)) ∷ k))
  line_most (word.Jump to) k = omega arith
  line_most (word.Branch test left right to) k =
      omega (arith, both_bytes left right (Branch (compare test) (left_of h left) (right_of h right) (Inner p.number to) ∷ k))
  line_most (word.Argument index from) k =
      let offset = argument_at index in
      omega (
        arith,
        bytes-does (bring 5 (home_of h from)) (does (save (left_of h from) offset) k),
        bytes-does (save (left_of h from) offset) k,
        few_bring 5 from,
        few_save (left_of h from) offset,
      )
  line_most (word.Call to callee) k = omega (arith, bytes-does (give 10 (home_of h to)) k, few_give 10 to)
  line_most (word.Return from) k =
      let back = restore (is_leaf p.lines) in
      let rest = Do (Jalr 0 1 0) ∷ k in
      let places = shift 3 (negative p.room) in
      omega (
        arith,
        bytes-does (move 10 (home_of h from)) (does back (leave_code h p rest)),
        few_move 10 from,
        bytes-does back (leave_code h p rest),
        few_restore (is_leaf p.lines),
        bytes-does (sum 2 2 h.frame) (does places rest),
        r.frame_up,
        bytes-does places rest,
        r.room_down,
      )
  line_most (word.Read to a len) k =
      let after = does (give 10 (home_of h to)) k in
      omega (
        arith,
        range_bytes a len (Do (Addi 10 0 0) ∷ Do (Addi 17 0 63) ∷ Do Ecall ∷ after),
        bytes-does (give 10 (home_of h to)) k,
        few_give 10 to,
      )
  line_most (word.Write stream a len) k = omega (arith, range_bytes a len (Do (Addi 10 0 (stream_number stream)) ∷ Do (Addi 17 0 64) ∷ Do Ecall ∷ k))
  line_most (word.Exit status) k = omega (arith, bytes-does (move 10 (home_of h status)) (Do (Addi 17 0 93) ∷ Do Ecall ∷ k), few_move 10 status)

  -- what is around the lines of a procedure
  around_bytes : (k : List LabelLine) → size all_far (proc_code h p k) ≤ 4 + 8 * n + size all_far (lines_code h p p.lines (Do Ebreak ∷ k))
  around_bytes k =
      let last = Do (Sw 2 1 0) ∷ lines_code h p p.lines (Do Ebreak ∷ k) in
      omega (
        arith,
        bytes-does (sum 2 2 (negative h.frame)) (does (shift 3 p.room) last),
        r.frame_down,
        bytes-does (shift 3 p.room) last,
        r.room_up,
      )

-- ---- procedures

all_lines : (n : ℕ) (h : Homes) (p : WordProc) → Reaches n h p → (lines : List WordInstr) (k : List LabelLine) →
    size all_far (lines_code h p lines k) ≤ lines_bytes n lines + size all_far k
all_lines n h p r [] k = omega arith
all_lines n h p r (l ∷ lines) k = omega (arith, line_most n h p r l (lines_code h p lines k), all_lines n h p r lines k)

by_reach : (n : ℕ) (h : Homes) (p : WordProc) → Reaches n h p → (k : List LabelLine) → size all_far (proc_code h p k) ≤ bytes_by n p + size all_far k
by_reach n h p r k = omega (arith, around_bytes n h p r k, all_lines n h p r p.lines (Do Ebreak ∷ k))

proc_most : (h : Homes) (p : WordProc) → IsHomes p h → (k : List LabelLine) → size all_far (proc_code h p k) ≤ proc_bytes p + size all_far k
proc_most h p is k =
    cond_both (is_near_proc p) (bytes_by 1 p) (bytes_by 3 p) (λ most. size all_far (proc_code h p k) ≤ most + size all_far k)
    (λ small. by_reach 1 h p (near h p is small) k) (λ large. by_reach 3 h p (far h p) k)

procs_most : (procs : List WordProc) (homes : List Homes) → AllHomes procs homes → size all_far (homes_code procs homes) ≤ procs_bytes procs
procs_most [] homes all = omega arith
procs_most (p ∷ procs) [] all = omega arith
procs_most (p ∷ procs) (h ∷ homes) all = omega (arith, proc_most h p all.0 (homes_code procs homes), procs_most procs homes all.1)

pub code_bytes : (procs : List WordProc) (homes : List Homes) → AllHomes procs homes → size all_far (code_of procs homes) ≤ most_bytes procs
code_bytes procs homes all = omega (arith, procs_most procs homes all)
