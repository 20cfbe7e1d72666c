-- The code of a line is some lines in front of what follows.
use Rattle.std.proofs.Common.{◌≡◌, ℕ, ◌+◌, ◌%◌, ◌^◌, ◌≤◌, List, [], ◌∷◌, ◌++◌, length}
use Rattle.std.proofs.Common.{Bool, true, false, Some, None, refl, sym, ap, subst, ◌∙◌, arith}
use Rattle.std.proofs.Common.{append_assoc}
use Rattle.std.specs.Prelude.{◌==◌, ◌&&◌, if◌then◌else◌}
use Rattle.std.proofs.lemmas.Bool.{eq-eqb, ne_eqb, and_left, cond-false, cond_both}
use Rattle.rv32_isa.specs.declared.instr.Instr.{Instr}
use Rattle.rv32_isa.specs.declared.instr.Instr.TheVariants.{Sw, Addi, Jalr, Ecall, Ebreak}
use Rattle.rv32_isa.specs.declared.label.LabelName.{LabelName}
use Rattle.rv32_isa.specs.declared.label.LabelName.TheVariants.{Entry, Inner}
use Rattle.rv32_isa.specs.declared.label.LabelLine.{LabelLine}
use Rattle.rv32_isa.specs.declared.label.LabelLine.TheVariants.{Label, Do, Jump, Branch}
use Rattle.rv32_isa.specs.Image.{statics_at}
use Rattle.rv32_isa.specs.Labels.{from_label, hooks_lead}
use Rattle.rv32_codegen.specs.Layout.{enters_no_hook}
use Rattle.word_code.specs.declared.word.WordInstr.{WordInstr}
use Rattle.word_code.specs.declared.word.WordInstr.TheVariants as word
use Rattle.word_code.specs.declared.word.WordProc.{WordProc}
use Rattle.word_code.specs.Words.{is_label}
use Rattle.reg_scan.specs.declared.homes.Home.{Home}
use Rattle.reg_scan.specs.declared.homes.Home.TheVariants.{Reg, Frame}
use Rattle.reg_scan.specs.declared.homes.Homes.{Homes}
use Rattle.reg_scan.specs.Homes.{home_of}
use Rattle.rv32_codegen.specs.Code.{does, is_near, negative, constant, datum, sum, shift, load, save, operate, fetch, store, stream_number, bring, move}
use Rattle.rv32_codegen.specs.Code.{settle, give, target, left_of, right_of, argument_at, place_at, datum_at, compare, bring_both, move_range, keep}
use Rattle.rv32_codegen.specs.Code.{is_leaf, restore, leave_code, line_code, lines_code, entry_code}
use Rattle.rv32_codegen.proofs.Machine.{Quiet, quiet_does}

-- ---- instructions in front of lines

does_append : (is : List Instr) (xs k : List LabelLine) → does is (xs ++ k) ≡ does is xs ++ k
does_append [] xs k = refl
does_append (i ∷ is) xs k = ap (λ l. Do i ∷ l) (does_append is xs k)

does_two : (a b : List Instr) (k : List LabelLine) → does a (does b k) ≡ does a (does b []) ++ k
does_two a b k = ap (does a) (does_append b [] k) ∙ does_append a (does b []) k

pub skip_does : (name : LabelName) (is : List Instr) (k : List LabelLine) → from_label name (does is k) ≡ from_label name k
skip_does name [] k = refl
skip_does name (i ∷ is) k = skip_does name is k

pub length-does : (is : List Instr) (k : List LabelLine) → length (does is k) ≡ length is + length k
length-does [] k = omega arith
length-does (i ∷ is) k = omega (arith, length-does is k)

-- ---- sizes of pieces

abbrev pub Few : ℕ → List Instr → Type 0
Few n is = length is ≤ n

pub few_constant : (rd value : ℕ) → Few 2 (constant rd value)
few_constant rd value = cond_both (is_near value) _ _ (Few 2) (λ e. omega arith) (λ e. omega arith)

pub few_sum : (rd from value : ℕ) → Few 3 (sum rd from value)
few_sum rd from value = cond_both (is_near value) _ _ (Few 3) (λ e. omega arith) (λ e. omega arith)

pub few_datum : (rd address : ℕ) → Few 2 (datum rd address)
few_datum rd address = cond_both (is_near ((address + negative statics_at) % 2 ^ 32)) _ _ (Few 2) (λ e. omega arith) (λ e. few_constant rd address)

pub few_shift : (rd amount : ℕ) → Few 3 (shift rd amount)
few_shift rd amount = cond_both (amount == 0) _ _ (Few 3) (λ e. omega arith) (λ e. few_sum rd rd amount)

pub few_load : (rd offset : ℕ) → Few 3 (load rd offset)
few_load rd offset = cond_both (is_near offset) _ _ (Few 3) (λ e. omega arith) (λ e. omega arith)

pub few_save : (rs offset : ℕ) → Few 3 (save rs offset)
few_save rs offset = cond_both (is_near offset) _ _ (Few 3) (λ e. omega arith) (λ e. omega arith)

pub few_bring : (other : ℕ) (home : Home) → Few 3 (bring other home)
few_bring other (Reg number) = omega arith
few_bring other (Frame at) = few_load other at

pub few_move : (rd : ℕ) (home : Home) → Few 3 (move rd home)
few_move rd (Reg number) = omega arith
few_move rd (Frame at) = few_load rd at

pub few_settle : (home : Home) → Few 3 (settle home)
few_settle (Reg number) = omega arith
few_settle (Frame at) = few_save 5 at

pub few_give : (rs : ℕ) (home : Home) → Few 3 (give rs home)
few_give rs (Reg number) = omega arith
few_give rs (Frame at) = few_save rs at

pub few_restore : (leaf : Bool) → Few 1 (restore leaf)
few_restore true = omega arith
few_restore false = omega arith

both_long : (h : Homes) (left right : ℕ) (k : List LabelLine) → length (bring_both h left right k) ≤ 6 + length k
both_long h left right k =
    omega (
      arith,
      length-does (bring 5 (home_of h left)) (does (bring 6 (home_of h right)) k),
      length-does (bring 6 (home_of h right)) k,
      few_bring 5 (home_of h left),
      few_bring 6 (home_of h right),
    )

range_long : (h : Homes) (a len : ℕ) (k : List LabelLine) → length (move_range h a len k) ≤ 6 + length k
range_long h a len k =
    omega (
      arith,
      length-does (move 11 (home_of h a)) (does (move 12 (home_of h len)) k),
      length-does (move 12 (home_of h len)) k,
      few_move 11 (home_of h a),
      few_move 12 (home_of h len),
    )

-- so many in front of a variable's settling
keep_long : (h : Homes) (n to : ℕ) (is : List Instr) (k : List LabelLine) → Few n is → length (does is (keep h to k)) ≤ n + (3 + length k)
keep_long h n to is k few = omega (arith, few, length-does is (keep h to k), length-does (settle (home_of h to)) k, few_settle (home_of h to))

pub line_long : (h : Homes) (p : WordProc) (l : WordInstr) (k : List LabelLine) → length (line_code h p l k) ≤ 12 + length k
line_long h p (word.Label name) k = omega arith
line_long h p word.Spend k = omega arith
line_long h p (word.SpendIf test left right) k = omega arith
line_long h p (word.Constant to value) k = omega (arith, keep_long h 2 to (constant (target h to) value) k (few_constant (target h to) value))
line_long h p (word.Copy to from) k = omega (arith, keep_long h 3 to (move (target h to) (home_of h from)) k (few_move (target h to) (home_of h from)))
line_long h p (word.Compute to o left right) k =
    let rest = Do (operate o (target h to) (left_of h left) (right_of h right)) ∷ keep h to k in
    omega (arith, both_long h left right rest, length-does (settle (home_of h to)) k, few_settle (home_of h to))
line_long h p (word.Sum to from value) k =
    let rest = does (sum (target h to) (right_of h from) value) (keep h to k) in
    omega (
      arith,
      length-does (bring 6 (home_of h from)) rest,
      few_bring 6 (home_of h from),
      keep_long h 3 to (sum (target h to) (right_of h from) value) k (few_sum (target h to) (right_of h from) value),
    )
line_long h p (word.Place to a) k =
    omega (arith, keep_long h 3 to (sum (target h to) 3 (place_at p a)) k (few_sum (target h to) 3 (place_at p a)))
line_long h p (word.Datum to a) k =
    omega (arith, keep_long h 2 to (datum (target h to) (datum_at p a)) k (few_datum (target h to) (datum_at p a)))
line_long h p (word.Load to a size) k =
    let rest = Do (fetch size (target h to) (left_of h a)) ∷ keep h to k in
    omega (
      arith,
      length-does (bring 5 (home_of h a)) rest,
      few_bring 5 (home_of h a),
      length-does (settle (home_of h to)) k,
      few_settle (home_of h to),
    )
line_long h p (word.Store a from size) k = omega (arith, both_long h a from (Do (store size (left_of h a) (right_of h from)) ∷ k))
line_long h p (word.Jump to) k = omega arith
line_long h p (word.Branch test left right to) k =
    omega (arith, both_long h left right (Branch (compare test) (left_of h left) (right_of h right) (Inner p.number to) ∷ k))
line_long h p (word.Argument index from) k =
    let offset = argument_at index in
    omega (
      arith,
      length-does (bring 5 (home_of h from)) (does (save (left_of h from) offset) k),
      length-does (save (left_of h from) offset) k,
      few_bring 5 (home_of h from),
      few_save (left_of h from) offset,
    )
line_long h p (word.Call to callee) k = omega (arith, length-does (give 10 (home_of h to)) k, few_give 10 (home_of h to))
line_long h p (word.Return from) k =
    let back = restore (is_leaf p.lines) in
    let rest = Do (Jalr 0 1 0) ∷ k in
    let places = shift 3 (negative p.room) in
    omega (
      arith,
      length-does (move 10 (home_of h from)) (does back (leave_code h p rest)),
      few_move 10 (home_of h from),
      length-does back (leave_code h p rest),
      few_restore (is_leaf p.lines),
      length-does (sum 2 2 h.frame) (does places rest),
      few_sum 2 2 h.frame,
      length-does places rest,
      few_shift 3 (negative p.room),
    )
line_long h p (word.Read to a len) k =
    let after = does (give 10 (home_of h to)) k in
    omega (
      arith,
      range_long h a len (Do (Addi 10 0 0) ∷ Do (Addi 17 0 63) ∷ Do Ecall ∷ after),
      length-does (give 10 (home_of h to)) k,
      few_give 10 (home_of h to),
    )
line_long h p (word.Write stream a len) k = omega (arith, range_long h a len (Do (Addi 10 0 (stream_number stream)) ∷ Do (Addi 17 0 64) ∷ Do Ecall ∷ k))
line_long h p (word.Exit status) k =
    omega (arith, length-does (move 10 (home_of h status)) (Do (Addi 17 0 93) ∷ Do Ecall ∷ k), few_move 10 (home_of h status))

-- ---- lines are in front of what follows

both_append : (h : Homes) (left right : ℕ) (xs k : List LabelLine) → bring_both h left right (xs ++ k) ≡ bring_both h left right xs ++ k
both_append h left right xs k =
    ap (does (bring 5 (home_of h left))) (does_append (bring 6 (home_of h right)) xs k)
    ∙ does_append (bring 5 (home_of h left)) (does (bring 6 (home_of h right)) xs) k

range_append : (h : Homes) (a len : ℕ) (xs k : List LabelLine) → move_range h a len (xs ++ k) ≡ move_range h a len xs ++ k
range_append h a len xs k =
    ap (does (move 11 (home_of h a))) (does_append (move 12 (home_of h len)) xs k)
    ∙ does_append (move 11 (home_of h a)) (does (move 12 (home_of h len)) xs) k

leave_append : (h : Homes) (p : WordProc) (xs k : List LabelLine) → leave_code h p (xs ++ k) ≡ leave_code h p xs ++ k
leave_append h p xs k =
    let places = shift 3 (negative p.room) in
    ap (does (sum 2 2 h.frame)) (does_append places xs k) ∙ does_append (sum 2 2 h.frame) (does places xs) k

pub line_split : (h : Homes) (p : WordProc) (l : WordInstr) (k : List LabelLine) → line_code h p l k ≡ line_code h p l [] ++ k
line_split h p (word.Label name) k = refl
line_split h p word.Spend k = refl
line_split h p (word.SpendIf test left right) k = refl
line_split h p (word.Constant to value) k = does_two (constant (target h to) value) (settle (home_of h to)) k
line_split h p (word.Copy to from) k = does_two (move (target h to) (home_of h from)) (settle (home_of h to)) k
line_split h p (word.Compute to o left right) k =
    let b = settle (home_of h to) in
    let i = operate o (target h to) (left_of h left) (right_of h right) in
    ap (λ x. bring_both h left right (Do i ∷ x)) (does_append b [] k) ∙ both_append h left right (Do i ∷ does b []) k
line_split h p (word.Sum to from value) k =
    let a = bring 6 (home_of h from) in
    let b = sum (target h to) (right_of h from) value in
    ap (does a) (does_two b (settle (home_of h to)) k) ∙ does_append a (does b (keep h to [])) k
line_split h p (word.Place to a) k = does_two (sum (target h to) 3 (place_at p a)) (settle (home_of h to)) k
line_split h p (word.Datum to a) k = does_two (datum (target h to) (datum_at p a)) (settle (home_of h to)) k
line_split h p (word.Load to a size) k =
    let b = settle (home_of h to) in
    let i = fetch size (target h to) (left_of h a) in
    ap (λ x. does (bring 5 (home_of h a)) (Do i ∷ x)) (does_append b [] k)
    ∙ does_append (bring 5 (home_of h a)) (Do i ∷ does b []) k
line_split h p (word.Store a from size) k = both_append h a from (Do (store size (left_of h a) (right_of h from)) ∷ []) k
line_split h p (word.Jump to) k = refl
line_split h p (word.Branch test left right to) k =
    both_append h left right (Branch (compare test) (left_of h left) (right_of h right) (Inner p.number to) ∷ []) k
line_split h p (word.Argument index from) k = does_two (bring 5 (home_of h from)) (save (left_of h from) (argument_at index)) k
line_split h p (word.Call to callee) k = ap (λ x. Jump 1 (Entry callee) ∷ x) (does_append (give 10 (home_of h to)) [] k)
line_split h p (word.Return from) k =
    let first = move 10 (home_of h from) in
    let back = restore (is_leaf p.lines) in
    let last = Do (Jalr 0 1 0) ∷ [] in
    ap (λ x. does first (does back x)) (leave_append h p last k)
    ∙ ap (does first) (does_append back (leave_code h p last) k)
    ∙ does_append first (does back (leave_code h p last)) k
line_split h p (word.Read to a len) k =
    let b = give 10 (home_of h to) in
    ap (λ x. move_range h a len (Do (Addi 10 0 0) ∷ Do (Addi 17 0 63) ∷ Do Ecall ∷ x)) (does_append b [] k)
    ∙ range_append h a len (Do (Addi 10 0 0) ∷ Do (Addi 17 0 63) ∷ Do Ecall ∷ does b []) k
line_split h p (word.Write stream a len) k = range_append h a len (Do (Addi 10 0 (stream_number stream)) ∷ Do (Addi 17 0 64) ∷ Do Ecall ∷ []) k
line_split h p (word.Exit status) k = does_append (move 10 (home_of h status)) (Do (Addi 17 0 93) ∷ Do Ecall ∷ []) k

pub lines_fold : (h : Homes) (p : WordProc) (before left : List WordInstr) (k : List LabelLine) →
    lines_code h p (before ++ left) k ≡ lines_code h p before (lines_code h p left k)
lines_fold h p [] left k = refl
lines_fold h p (l ∷ before) left k = ap (line_code h p l) (lines_fold h p before left k)

pub lines_end : (h : Homes) (p : WordProc) (lines : List WordInstr) (k : List LabelLine) → lines_code h p lines k ≡ lines_code h p lines [] ++ k
lines_end h p [] k = refl
lines_end h p (l ∷ lines) k =
    let chunk = line_code h p l [] in
    line_split h p l (lines_code h p lines k)
    ∙ ap (λ x. chunk ++ x) (lines_end h p lines k)
    ∙ sym (append_assoc chunk (lines_code h p lines []) k)
    ∙ ap (λ x. x ++ k) (sym (line_split h p l (lines_code h p lines [])))

-- ---- what stands where a procedure begins

entry_append : (h : Homes) (p : WordProc) (xs k : List LabelLine) → entry_code h p (xs ++ k) ≡ entry_code h p xs ++ k
entry_append h p xs k =
    let last = Do (Sw 2 1 0) ∷ xs in
    ap (does (sum 2 2 (negative h.frame))) (does_append (shift 3 p.room) last k)
    ∙ does_append (sum 2 2 (negative h.frame)) (does (shift 3 p.room) last) k

-- the lines of the procedure stand behind it
pub entry_split : (h : Homes) (p : WordProc) (k : List LabelLine) → entry_code h p k ≡ entry_code h p [] ++ k
entry_split h p k = entry_append h p [] k

pub entry_long : (h : Homes) (p : WordProc) (k : List LabelLine) → length (entry_code h p k) ≤ 7 + length k
entry_long h p k =
    let last = Do (Sw 2 1 0) ∷ k in
    omega (
      arith,
      length-does (sum 2 2 (negative h.frame)) (does (shift 3 p.room) last),
      few_sum 2 2 (negative h.frame),
      length-does (shift 3 p.room) last,
      few_shift 3 p.room,
    )

pub entry_look : (name : LabelName) (h : Homes) (p : WordProc) (k : List LabelLine) → from_label name (entry_code h p k) ≡ from_label name k
entry_look name h p k = skip_does name (sum 2 2 (negative h.frame)) _ ∙ skip_does name (shift 3 p.room) (Do (Sw 2 1 0) ∷ k)

pub quiet_entry : (h : Homes) (p : WordProc) (k : List LabelLine) → Quiet (entry_code h p k)
quiet_entry h p k = quiet_does (sum 2 2 (negative h.frame)) _ (quiet_does (shift 3 p.room) (Do (Sw 2 1 0) ∷ k) refl)

-- the rest of a procedure behind its label
abbrev pub body : Homes → WordProc → List LabelLine
body h p = entry_code h p (lines_code h p p.lines (Do Ebreak ∷ []))

pub body_split : (h : Homes) (p : WordProc) (k : List LabelLine) → entry_code h p (lines_code h p p.lines (Do Ebreak ∷ k)) ≡ body h p ++ k
body_split h p k =
    let e = Do Ebreak ∷ [] in
    let lines : lines_code h p p.lines (Do Ebreak ∷ k) ≡ lines_code h p p.lines e ++ k =
    lines_end h p p.lines (Do Ebreak ∷ k)
    ∙ sym (append_assoc (lines_code h p p.lines []) e k)
    ∙ ap (λ x. x ++ k) (sym (lines_end h p p.lines e)) in
    ap (entry_code h p) lines ∙ entry_append h p (lines_code h p p.lines e) k

-- ---- a label of the procedure is found where it stands

pub line_look : (name : ℕ) (h : Homes) (p : WordProc) (l : WordInstr) (k : List LabelLine) →
    from_label (Inner p.number name) (line_code h p l k)
    ≡ (if is_label name l then Some (line_code h p l k) else from_label (Inner p.number name) k)
line_look name h p (word.Label other) k =
    let own : (p.number == p.number) ≡ true = eq-eqb p.number p.number refl in
    ap (λ b. if b && (other == name) then Some (Label (Inner p.number other) None ∷ k) else from_label (Inner p.number name) k) own
line_look name h p word.Spend k = refl
line_look name h p (word.SpendIf test left right) k = refl
line_look name h p (word.Constant to value) k = skip_does _ (constant (target h to) value) _ ∙ skip_does _ (settle (home_of h to)) k
line_look name h p (word.Copy to from) k = skip_does _ (move (target h to) (home_of h from)) _ ∙ skip_does _ (settle (home_of h to)) k
line_look name h p (word.Compute to o left right) k =
    skip_does _ (bring 5 (home_of h left)) _ ∙ skip_does _ (bring 6 (home_of h right)) _ ∙ skip_does _ (settle (home_of h to)) k
line_look name h p (word.Sum to from value) k =
    skip_does _ (bring 6 (home_of h from)) _ ∙ skip_does _ (sum (target h to) (right_of h from) value) _ ∙ skip_does _ (settle (home_of h to)) k
line_look name h p (word.Place to a) k = skip_does _ (sum (target h to) 3 (place_at p a)) _ ∙ skip_does _ (settle (home_of h to)) k
line_look name h p (word.Datum to a) k = skip_does _ (datum (target h to) (datum_at p a)) _ ∙ skip_does _ (settle (home_of h to)) k
line_look name h p (word.Load to a size) k = skip_does _ (bring 5 (home_of h a)) _ ∙ skip_does _ (settle (home_of h to)) k
line_look name h p (word.Store a from size) k = skip_does _ (bring 5 (home_of h a)) _ ∙ skip_does _ (bring 6 (home_of h from)) _
line_look name h p (word.Jump to) k = refl
line_look name h p (word.Branch test left right to) k = skip_does _ (bring 5 (home_of h left)) _ ∙ skip_does _ (bring 6 (home_of h right)) _
line_look name h p (word.Argument index from) k =
    skip_does _ (bring 5 (home_of h from)) _ ∙ skip_does _ (save (left_of h from) (argument_at index)) k
line_look name h p (word.Call to callee) k = skip_does _ (give 10 (home_of h to)) k
line_look name h p (word.Return from) k =
    skip_does _ (move 10 (home_of h from)) _ ∙ skip_does _ (restore (is_leaf p.lines)) _ ∙ skip_does _ (sum 2 2 h.frame) _
    ∙ skip_does _ (shift 3 (negative p.room)) _
line_look name h p (word.Read to a len) k =
    skip_does _ (move 11 (home_of h a)) _ ∙ skip_does _ (move 12 (home_of h len)) _ ∙ skip_does _ (give 10 (home_of h to)) k
line_look name h p (word.Write stream a len) k = skip_does _ (move 11 (home_of h a)) _ ∙ skip_does _ (move 12 (home_of h len)) _
line_look name h p (word.Exit status) k = skip_does _ (move 10 (home_of h status)) _

-- ---- lines of one procedure

-- a label of the procedure of that number, or no label
abbrev pub IsOwn : ℕ → LabelLine → Type 0
IsOwn number (Label (Entry other) hook) = ⊥
IsOwn number (Label (Inner other name) None) = other ≡ number
IsOwn number (Label (Inner other name) (Some hook)) = ⊥
IsOwn number (Do i) = Unit {0}
IsOwn number (Jump rd to) = Unit {0}
IsOwn number (Branch test left right to) = Unit {0}

abbrev pub AllOwn : ℕ → List LabelLine → Type 0
AllOwn number [] = Unit {0}
AllOwn number (line ∷ lines) = IsOwn number line × AllOwn number lines

pub own_append : (n : ℕ) (xs k : List LabelLine) → AllOwn n xs → AllOwn n k → AllOwn n (xs ++ k)
own_append n [] k h g = g
own_append n (x ∷ xs) k h g = (h.0, own_append n xs k h.1 g)

own_does : (n : ℕ) (is : List Instr) (k : List LabelLine) → AllOwn n k → AllOwn n (does is k)
own_does n [] k g = g
own_does n (i ∷ is) k g = (tt, own_does n is k g)

own_two : (n : ℕ) (a b : List Instr) (k : List LabelLine) → AllOwn n k → AllOwn n (does a (does b k))
own_two n a b k g = own_does n a (does b k) (own_does n b k g)

own_line : (h : Homes) (p : WordProc) (l : WordInstr) → AllOwn p.number (line_code h p l [])
own_line h p (word.Label name) = (refl, tt)
own_line h p word.Spend = tt
own_line h p (word.SpendIf test left right) = tt
own_line h p (word.Constant to value) = own_two _ (constant (target h to) value) (settle (home_of h to)) [] tt
own_line h p (word.Copy to from) = own_two _ (move (target h to) (home_of h from)) (settle (home_of h to)) [] tt
own_line h p (word.Compute to o left right) =
    own_two _ (bring 5 (home_of h left)) (bring 6 (home_of h right)) _ (tt, own_does _ (settle (home_of h to)) [] tt)
own_line h p (word.Sum to from value) =
    own_two _ (bring 6 (home_of h from)) (sum (target h to) (right_of h from) value) _ (own_does _ (settle (home_of h to)) [] tt)
own_line h p (word.Place to a) = own_two _ (sum (target h to) 3 (place_at p a)) (settle (home_of h to)) [] tt
own_line h p (word.Datum to a) = own_two _ (datum (target h to) (datum_at p a)) (settle (home_of h to)) [] tt
own_line h p (word.Load to a size) = own_does _ (bring 5 (home_of h a)) _ (tt, own_does _ (settle (home_of h to)) [] tt)
own_line h p (word.Store a from size) = own_two _ (bring 5 (home_of h a)) (bring 6 (home_of h from)) _ (tt, tt)
own_line h p (word.Jump to) = (tt, tt)
own_line h p (word.Branch test left right to) = own_two _ (bring 5 (home_of h left)) (bring 6 (home_of h right)) _ (tt, tt)
own_line h p (word.Argument index from) = own_two _ (bring 5 (home_of h from)) (save (left_of h from) (argument_at index)) [] tt
own_line h p (word.Call to callee) = (tt, own_does _ (give 10 (home_of h to)) [] tt)
own_line h p (word.Return from) =
    own_two _ (move 10 (home_of h from)) (restore (is_leaf p.lines)) _ (own_two _ (sum 2 2 h.frame) (shift 3 (negative p.room)) _ (tt, tt))
own_line h p (word.Read to a len) =
    own_two _ (move 11 (home_of h a)) (move 12 (home_of h len)) _ (tt, (tt, (tt, own_does _ (give 10 (home_of h to)) [] tt)))
own_line h p (word.Write stream a len) = own_two _ (move 11 (home_of h a)) (move 12 (home_of h len)) _ (tt, (tt, (tt, tt)))
own_line h p (word.Exit status) = own_does _ (move 10 (home_of h status)) _ (tt, (tt, tt))

own_lines : (h : Homes) (p : WordProc) (lines : List WordInstr) → AllOwn p.number (lines_code h p lines [])
own_lines h p [] = tt
own_lines h p (l ∷ lines) =
    subst (AllOwn p.number) (sym (line_split h p l (lines_code h p lines []))) (own_append p.number _ _ (own_line h p l) (own_lines h p lines))

pub own_body : (h : Homes) (p : WordProc) → AllOwn p.number (body h p)
own_body h p =
    let lines = subst (AllOwn p.number) (sym (lines_end h p p.lines (Do Ebreak ∷ []))) (own_append p.number _ _ (own_lines h p p.lines) (tt, tt)) in
    own_two p.number (sum 2 2 (negative h.frame)) (shift 3 p.room) _ (tt, lines)

-- ---- what is true of such lines

pub skip_entry : (n m : ℕ) (xs k : List LabelLine) → AllOwn n xs → from_label (Entry m) (xs ++ k) ≡ from_label (Entry m) k
skip_entry n m [] k h = refl
skip_entry n m (Label (Entry other) hook ∷ xs) k h = absurd h.0
skip_entry n m (Label (Inner other name) None ∷ xs) k h = skip_entry n m xs k h.1
skip_entry n m (Label (Inner other name) (Some hook) ∷ xs) k h = absurd h.0
skip_entry n m (Do i ∷ xs) k h = skip_entry n m xs k h.1
skip_entry n m (Jump rd to ∷ xs) k h = skip_entry n m xs k h.1
skip_entry n m (Branch t left right to ∷ xs) k h = skip_entry n m xs k h.1

pub skip_inner : (n m name : ℕ) (xs k : List LabelLine) → (n ≡ m → ⊥) → AllOwn n xs →
    from_label (Inner m name) (xs ++ k) ≡ from_label (Inner m name) k
skip_inner n m name [] k ne h = refl
skip_inner n m name (Label (Entry other) hook ∷ xs) k ne h = absurd h.0
skip_inner n m name (Label (Inner other x) None ∷ xs) k ne h =
    cond-false ((other == m) && (x == name)) _ (from_label (Inner m name) (xs ++ k)) (and_left (other == m) (x == name) (ne_eqb other m (λ e. ne (sym h.0
    ∙ e))))
    ∙ skip_inner n m name xs k ne h.1
skip_inner n m name (Label (Inner other x) (Some hook) ∷ xs) k ne h = absurd h.0
skip_inner n m name (Do i ∷ xs) k ne h = skip_inner n m name xs k ne h.1
skip_inner n m name (Jump rd to ∷ xs) k ne h = skip_inner n m name xs k ne h.1
skip_inner n m name (Branch t left right to ∷ xs) k ne h = skip_inner n m name xs k ne h.1

-- no hook begins where they do
pub quiet_own : (n : ℕ) (xs k : List LabelLine) → AllOwn n xs → Quiet k → Quiet (xs ++ k)
quiet_own n [] k h q = q
quiet_own n (Label (Entry other) hook ∷ xs) k h q = absurd h.0
quiet_own n (Label (Inner other x) None ∷ xs) k h q = quiet_own n xs k h.1 q
quiet_own n (Label (Inner other x) (Some hook) ∷ xs) k h q = absurd h.0
quiet_own n (Do i ∷ xs) k h q = refl
quiet_own n (Jump rd to ∷ xs) k h q = refl
quiet_own n (Branch t left right to ∷ xs) k h q = refl

pub leads_own : (n : ℕ) (xs k : List LabelLine) → AllOwn n xs → hooks_lead k ≡ true → hooks_lead (xs ++ k) ≡ true
leads_own n [] k h g = g
leads_own n (Label (Entry other) hook ∷ xs) k h g = absurd h.0
leads_own n (Label (Inner other x) None ∷ xs) k h g = leads_own n xs k h.1 g
leads_own n (Label (Inner other x) (Some hook) ∷ xs) k h g = absurd h.0
leads_own n (Do i ∷ xs) k h g = leads_own n xs k h.1 g
leads_own n (Jump rd to ∷ xs) k h g = leads_own n xs k h.1 g
leads_own n (Branch t left right to ∷ xs) k h g = leads_own n xs k h.1 g

pub unhooked_own : (n : ℕ) (xs k : List LabelLine) → AllOwn n xs → enters_no_hook k ≡ true → enters_no_hook (xs ++ k) ≡ true
unhooked_own n [] k h g = g
unhooked_own n (Label (Entry other) hook ∷ xs) k h g = absurd h.0
unhooked_own n (Label (Inner other x) None ∷ xs) k h g = unhooked_own n xs k h.1 g
unhooked_own n (Label (Inner other x) (Some hook) ∷ xs) k h g = absurd h.0
unhooked_own n (Do i ∷ xs) k h g = unhooked_own n xs k h.1 g
unhooked_own n (Jump rd to ∷ xs) k h g = unhooked_own n xs k h.1 g
unhooked_own n (Branch t left right to ∷ xs) k h g = unhooked_own n xs k h.1 g

-- behind any line of a procedure no hook begins
pub quiet_lines : (h : Homes) (p : WordProc) (lines : List WordInstr) (k : List LabelLine) → Quiet k → Quiet (lines_code h p lines k)
quiet_lines h p lines k q = subst Quiet (sym (lines_end h p lines k)) (quiet_own p.number (lines_code h p lines []) k (own_lines h p lines) q)
