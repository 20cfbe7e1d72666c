-- The code of a line leaves x2 and x3 as they are, but before a return.
use Rattle.std.proofs.Common.{◌≡◌, ◌≢◌, ℕ, zero, suc, ◌+◌, ◌%◌, ◌^◌, ◌<◌, List, [], ◌∷◌, ◌++◌, length}
use Rattle.std.proofs.Common.{true, false, Bool, Some, None, Result, Ok, Err, refl, sym, ap, subst, ◌∙◌, arith, inl, inr}
use Rattle.std.specs.Prelude.{◌==◌, map, slice_get}
use Rattle.std.proofs.lemmas.Bool.{cond_both, cases_Bool, cond-true, cond-false}
use Rattle.std.proofs.lemmas.List.{get_or-set_other}
use Rattle.rv32_isa.specs.declared.instr.Instr.{Instr}
use Rattle.rv32_isa.specs.declared.instr.Instr.TheVariants.{Lui, Jalr, Lw, Lbu, Lhu, Sb, Sh, Sw, Addi, Add, Sub, Sll, Slt, Sltu, Xor, Srl, Sra, Or}
use Rattle.rv32_isa.specs.declared.instr.Instr.TheVariants.{And, Mul, Mulh, Div, Divu, Rem, Remu, Ecall}
use Rattle.rv32_isa.specs.declared.machine.FaultKind.{FaultKind}
use Rattle.rv32_isa.specs.declared.machine.FaultKind.TheVariants.{Misaligned, OutOfRange}
use Rattle.rv32_isa.specs.declared.micro_op.Size.{Size}
use Rattle.rv32_isa.specs.declared.micro_op.Size.TheVariants as size
use Rattle.rv32_isa.specs.declared.micro_op.MicroOp.{MicroOp}
use Rattle.rv32_isa.specs.declared.micro_op.MicroOp.TheVariants.{Write, Jump as To, Branch as Perhaps, Load, LoadSigned, Store, Pass, Ask, Stop}
use Rattle.rv32_isa.specs.declared.label.LabelName.TheVariants.{Inner}
use Rattle.rv32_isa.specs.declared.label.LabelLine.{LabelLine}
use Rattle.rv32_isa.specs.declared.label.LabelLine.TheVariants.{Do}
use Rattle.rv32_isa.specs.Image.{statics_at, heap_at}
use Rattle.rv32_isa.specs.State.{State, reg, with_reg, skip, lies_in, writable, filled}
use Rattle.rv32_isa.specs.Steps.{Outcome, Goes, Calls, Faults, size_of, found, low_bytes, loaded, loaded_signed, half_of, stored, micro_op_of, act}
use Rattle.rv32_isa.specs.Labels.{from_label}
use Rattle.word_code.specs.declared.word.WordOperation.{WordOperation}
use Rattle.word_code.specs.declared.word.WordOperation.TheVariants as operation
use Rattle.word_code.specs.declared.word.WordInstr.{WordInstr}
use Rattle.word_code.specs.declared.word.WordInstr.TheVariants as word
use Rattle.word_code.specs.declared.word.WordProc.{WordProc}
use Rattle.word_code.specs.Words.{is_label}
use Rattle.reg_scan.specs.declared.homes.Home.{Home}
use Rattle.reg_scan.specs.declared.homes.Home.TheVariants.{Reg, Frame}
use Rattle.reg_scan.specs.declared.homes.Homes.{Homes}
use Rattle.reg_scan.specs.Homes.{or_none, home_of, IsPlace, IsHomes}
use Rattle.rv32_codegen.specs.Code.{does, is_near, negative, constant, datum, sum, shift, load, save, operate, fetch, store, stream_number}
use Rattle.rv32_codegen.specs.Code.{seat, bring, move, settle, give, target, left_of, right_of, argument_at, place_at, datum_at, bring_both, move_range}
use Rattle.rv32_codegen.specs.Code.{is_leaf, restore, keep, line_code, lines_code}
use Rattle.rv32_codegen.specs.Lowering.{has_next, up_by, down_by, MovesStack, LeavesStack, KeepsStack, labelled, leaves, jumps, branches, calls, returns}
use Rattle.rv32_codegen.proofs.Frees.{free_above}
use Rattle.rv32_codegen.proofs.Chunks.{line_look}
use Rattle.rv32_codegen.proofs.Lookups.{none_some, some_same}
use Rattle.rv32_codegen.proofs.MovedFrames.{stack_left}

-- ---- instructions

-- the next line follows, if any, and another register is written
abbrev Spares : (r : ℕ) → MicroOp → Type 0
Spares r (Write rd value) = r ≢ rd
Spares r (To rd at) = ⊥
Spares r (Perhaps taken at) = ⊥
Spares r (Load rd at size) = r ≢ rd
Spares r (LoadSigned rd at size) = r ≢ rd
Spares r (Store at size value) = Unit {0}
Spares r Pass = Unit {0}
Spares r Ask = Unit {0}
Spares r Stop = Unit {0}

other_reg : (s : State) (rd value r : ℕ) → r ≢ rd → reg (with_reg s rd value) r ≡ reg s r
other_reg s zero value r ne = refl
other_reg s (suc rd) value r ne = get_or-set_other s.regs (suc rd) r value 0 ne

regs_filled : (s : State) (at : ℕ) (bytes : List ℕ) → (filled s at bytes).regs ≡ s.regs
regs_filled s at bytes =
    let n = length bytes in
    cond_both (n == 0) s _ (λ (t : State). t.regs ≡ s.regs) (λ e. refl)
    (λ e. cond_both (lies_in statics_at s.statics at n) _ _ (λ (t : State). t.regs ≡ s.regs) (λ d. refl)
    (λ d. cond_both (lies_in heap_at s.heap at n) _ _ (λ (t : State). t.regs ≡ s.regs) (λ f. refl) (λ f. refl)))

-- what is so where an outcome goes on
abbrev Spared : (r : ℕ) (s : State) → Outcome → Type 0
Spared r s (Goes next) = reg next r ≡ reg s r
Spared r s Calls = Unit {0}
Spared r s (Faults kind pc word) = Unit {0}

loaded_spares : (s : State) (r rd : ℕ) (n : Result ℕ FaultKind) → r ≢ rd → Spared r s (loaded s 0 rd n)
loaded_spares s r rd (Ok n) ne = other_reg s rd _ r ne
loaded_spares s r rd (Err kind) ne = tt

signed_spares : (s : State) (r rd half : ℕ) (n : Result ℕ FaultKind) → r ≢ rd → Spared r s (loaded_signed s 0 rd half n)
signed_spares s r rd half (Ok n) ne = other_reg s rd _ r ne
signed_spares s r rd half (Err kind) ne = tt

act_spares : (s : State) (r : ℕ) (o : MicroOp) → Spares r o → Spared r s (act s 0 0 o)
act_spares s r (Write rd value) ne = other_reg s rd value r ne
act_spares s r (To rd at) ne = absurd ne
act_spares s r (Perhaps taken at) ne = absurd ne
act_spares s r (Load rd at size) ne = loaded_spares s r rd (found s at size) ne
act_spares s r (LoadSigned rd at size) ne = signed_spares s r rd (half_of size) (found s at size) ne
act_spares s r (Store at size value) ne =
    cond_both (at % size_of size == 0) (stored s 0 at size value) (Faults Misaligned s.pc 0) (Spared r s)
    (λ e. cond_both (writable s at (size_of size)) (Goes (skip (filled s at (low_bytes size value)))) (Faults OutOfRange s.pc 0) (Spared r s)
    (λ d. ap (λ regs. reg (record s { regs = regs }) r) (regs_filled s at (low_bytes size value))) (λ d. tt)) (λ e. tt)
act_spares s r Pass ne = refl
act_spares s r Ask ne = tt
act_spares s r Stop ne = tt

it_leaves : (i : Instr) → has_next i ≡ true → ((s : State) → Spares 2 (micro_op_of s i)) → ((s : State) → Spares 3 (micro_op_of s i)) →
    LeavesStack i
it_leaves i on two three = record {
  on = on;
  frame = λ s next e. subst (Spared 2 s) e (act_spares s 2 (micro_op_of s i) (two s));
  places = λ s next e. subst (Spared 3 s) e (act_spares s 3 (micro_op_of s i) (three s));
}

-- neither x2 nor x3
abbrev Apart : ℕ → Type 0
Apart rd = (2 ≢ rd) × (3 ≢ rd)

above : (rd : ℕ) → 3 < rd → Apart rd
above rd gt = (λ e. omega (arith, e, gt), λ e. omega (arith, e, gt))

lui : (rd value : ℕ) → Apart rd → LeavesStack (Lui rd value)
lui rd value a = it_leaves (Lui rd value) refl (λ s. a.0) (λ s. a.1)

addi : (rd rs value : ℕ) → Apart rd → LeavesStack (Addi rd rs value)
addi rd rs value a = it_leaves (Addi rd rs value) refl (λ s. a.0) (λ s. a.1)

add : (rd left right : ℕ) → Apart rd → LeavesStack (Add rd left right)
add rd left right a = it_leaves (Add rd left right) refl (λ s. a.0) (λ s. a.1)

lw : (rd rs offset : ℕ) → Apart rd → LeavesStack (Lw rd rs offset)
lw rd rs offset a = it_leaves (Lw rd rs offset) refl (λ s. a.0) (λ s. a.1)

pub sw : (ra rs offset : ℕ) → LeavesStack (Sw ra rs offset)
sw ra rs offset = it_leaves (Sw ra rs offset) refl (λ s. tt) (λ s. tt)

ecall : LeavesStack Ecall
ecall = it_leaves Ecall refl (λ s. tt) (λ s. tt)

-- ---- pieces

abbrev AllLeave : List Instr → Type 0
AllLeave [] = Unit {0}
AllLeave (i ∷ is) = LeavesStack i × AllLeave is

five : Apart 5
five = above 5 (omega arith)

ten : Apart 10
ten = above 10 (omega arith)

on_constant : (rd value : ℕ) → Apart rd → AllLeave (constant rd value)
on_constant rd value a = cond_both (is_near value) _ _ AllLeave (λ e. (addi rd 0 _ a, tt)) (λ e. (lui rd _ a, (addi rd rd _ a, tt)))

on_datum : (rd address : ℕ) → Apart rd → AllLeave (datum rd address)
on_datum rd address a = cond_both (is_near ((address + negative statics_at) % 2 ^ 32)) _ _ AllLeave (λ e. (addi rd 4 _ a, tt)) (λ e. on_constant rd address a)

on_sum : (rd from value : ℕ) → Apart rd → AllLeave (sum rd from value)
on_sum rd from value a =
    cond_both (is_near value) _ _ AllLeave (λ e. (addi rd from _ a, tt)) (λ e. (lui 5 _ five, (addi 5 5 _ five, (add rd from 5 a, tt))))

on_load : (rd offset : ℕ) → Apart rd → AllLeave (load rd offset)
on_load rd offset a =
    cond_both (is_near offset) _ _ AllLeave (λ e. (lw rd 2 _ a, tt)) (λ e. (lui rd _ a, (add rd rd 2 a, (lw rd rd _ a, tt))))

on_save : (rs offset : ℕ) → AllLeave (save rs offset)
on_save rs offset =
    let seven = above 7 (omega arith) in
    cond_both (is_near offset) _ _ AllLeave (λ e. (sw 2 rs _, tt)) (λ e. (lui 7 _ seven, (add 7 7 2 seven, (sw 7 rs _, tt))))

on_operate : (o : WordOperation) (rd left right : ℕ) → Apart rd → LeavesStack (operate o rd left right)
on_operate operation.Add rd left right a = add rd left right a
on_operate operation.Subtract rd left right a = it_leaves (Sub rd left right) refl (λ s. a.0) (λ s. a.1)
on_operate operation.Multiply rd left right a = it_leaves (Mul rd left right) refl (λ s. a.0) (λ s. a.1)
on_operate operation.MultiplyHigh rd left right a = it_leaves (Mulh rd left right) refl (λ s. a.0) (λ s. a.1)
on_operate operation.Divide rd left right a = it_leaves (Div rd left right) refl (λ s. a.0) (λ s. a.1)
on_operate operation.Remainder rd left right a = it_leaves (Rem rd left right) refl (λ s. a.0) (λ s. a.1)
on_operate operation.DivideUnsigned rd left right a = it_leaves (Divu rd left right) refl (λ s. a.0) (λ s. a.1)
on_operate operation.RemainderUnsigned rd left right a = it_leaves (Remu rd left right) refl (λ s. a.0) (λ s. a.1)
on_operate operation.And rd left right a = it_leaves (And rd left right) refl (λ s. a.0) (λ s. a.1)
on_operate operation.Or rd left right a = it_leaves (Or rd left right) refl (λ s. a.0) (λ s. a.1)
on_operate operation.Xor rd left right a = it_leaves (Xor rd left right) refl (λ s. a.0) (λ s. a.1)
on_operate operation.ShiftLeft rd left right a = it_leaves (Sll rd left right) refl (λ s. a.0) (λ s. a.1)
on_operate operation.ShiftRight rd left right a = it_leaves (Srl rd left right) refl (λ s. a.0) (λ s. a.1)
on_operate operation.ShiftRightSigned rd left right a = it_leaves (Sra rd left right) refl (λ s. a.0) (λ s. a.1)
on_operate operation.Less rd left right a = it_leaves (Slt rd left right) refl (λ s. a.0) (λ s. a.1)
on_operate operation.Below rd left right a = it_leaves (Sltu rd left right) refl (λ s. a.0) (λ s. a.1)

on_fetch : (s : Size) (rd address : ℕ) → Apart rd → LeavesStack (fetch s rd address)
on_fetch size.Byte rd address a = it_leaves (Lbu rd address 0) refl (λ s. a.0) (λ s. a.1)
on_fetch size.Half rd address a = it_leaves (Lhu rd address 0) refl (λ s. a.0) (λ s. a.1)
on_fetch size.Word rd address a = lw rd address 0 a

on_store : (s : Size) (address rs : ℕ) → LeavesStack (store s address rs)
on_store size.Byte address rs = it_leaves (Sb address rs 0) refl (λ s. tt) (λ s. tt)
on_store size.Half address rs = it_leaves (Sh address rs 0) refl (λ s. tt) (λ s. tt)
on_store size.Word address rs = sw address rs 0

-- ---- homes

abbrev IsApart : Home → Type 0
IsApart (Reg number) = Apart number
IsApart (Frame at) = Unit {0}

seat_apart : (other : ℕ) (home : Home) → Apart other → IsApart home → Apart (seat other home)
seat_apart other (Reg number) a h = h
seat_apart other (Frame at) a h = a

on_bring : (other : ℕ) (home : Home) → Apart other → AllLeave (bring other home)
on_bring other (Reg number) a = tt
on_bring other (Frame at) a = on_load other at a

on_move : (rd : ℕ) (home : Home) → Apart rd → AllLeave (move rd home)
on_move rd (Reg number) a = (addi rd number _ a, tt)
on_move rd (Frame at) a = on_load rd at a

on_settle : (home : Home) → AllLeave (settle home)
on_settle (Reg number) = tt
on_settle (Frame at) = on_save 5 at

on_give : (rs : ℕ) (home : Home) → IsApart home → AllLeave (give rs home)
on_give rs (Reg number) h = (addi number rs _ h, tt)
on_give rs (Frame at) h = on_save rs at

on_restore : (leaf : Bool) → AllLeave (restore leaf)
on_restore true = tt
on_restore false = (lw 1 2 0 (λ e. omega (arith, e), λ e. omega (arith, e)), tt)

place_apart : (frame : ℕ) (home : Home) → IsPlace frame home → IsApart home
place_apart frame (Reg number) h = let gt = free_above number h in above number (omega (arith, gt))
place_apart frame (Frame at) h = tt

list_apart : (homes : List Home) → ((v : ℕ) → v < length homes → IsApart (or_none (slice_get homes v))) → (v : ℕ) →
    IsApart (or_none (slice_get homes v))
list_apart [] h v = tt
list_apart (home ∷ homes) h zero = h 0 (omega arith)
list_apart (home ∷ homes) h (suc v) = list_apart homes (λ w lt. h (suc w) (omega (arith, lt))) v

pub homes_apart : (p : WordProc) (h : Homes) → IsHomes p h → (v : ℕ) → IsApart (home_of h v)
homes_apart p h is = list_apart h.of (λ v lt. place_apart h.frame (home_of h v) (is.there v (omega (arith, lt, is.long))))

-- ---- lines

does_is : (is : List Instr) (k : List LabelLine) → does is k ≡ map Do is ++ k
does_is [] k = refl
does_is (i ∷ is) k = ap (λ l. Do i ∷ l) (does_is is k)

pub does_both : (a b : List Instr) (k : List LabelLine) → does a (does b k) ≡ map Do (a ++ b) ++ k
does_both [] b k = does_is b k
does_both (i ∷ a) b k = ap (λ l. Do i ∷ l) (does_both a b k)

module _ (number frame room : ℕ) where
  abbrev Kept : List LabelLine → Type 0
  Kept lines = KeepsStack number frame room lines

  kept_does : (is : List Instr) (k : List LabelLine) → AllLeave is → Kept k → Kept (does is k)
  kept_does [] k h g = g
  kept_does (i ∷ is) k h g = leaves h.0 (kept_does is k h.1 g)

  kept_two : (a b : List Instr) (k : List LabelLine) → AllLeave a → AllLeave b → Kept k → Kept (does a (does b k))
  kept_two a b k h g f = kept_does a (does b k) h (kept_does b k g f)

  kept_return : (a b : List Instr) (k : List LabelLine) → MovesStack (up_by frame) (down_by room) (a ++ b) → Kept k →
      Kept (does a (does b (Do (Jalr 0 1 0) ∷ k)))
  kept_return a b k moves g = subst Kept (sym (does_both a b (Do (Jalr 0 1 0) ∷ k))) (returns (a ++ b) moves g)

module _ (h : Homes) (p : WordProc) (good : (v : ℕ) → IsApart (home_of h v)) where
  abbrev Own : List LabelLine → Type 0
  Own lines = KeepsStack p.number h.frame p.room lines

  own_does : (is : List Instr) (k : List LabelLine) → AllLeave is → Own k → Own (does is k)
  own_does is k a g = kept_does p.number h.frame p.room is k a g

  own_two : (a b : List Instr) (k : List LabelLine) → AllLeave a → AllLeave b → Own k → Own (does a (does b k))
  own_two a b k x y g = kept_two p.number h.frame p.room a b k x y g

  target_apart : (to : ℕ) → Apart (target h to)
  target_apart to = seat_apart 5 (home_of h to) five (good to)

  own_keep : (to : ℕ) (k : List LabelLine) → Own k → Own (keep h to k)
  own_keep to k g = own_does (settle (home_of h to)) k (on_settle (home_of h to)) g

  six : Apart 6
  six = above 6 (omega arith)

  own_both : (left right : ℕ) (k : List LabelLine) → Own k → Own (bring_both h left right k)
  own_both left right k g =
      own_two (bring 5 (home_of h left)) (bring 6 (home_of h right)) k (on_bring 5 (home_of h left) five) (on_bring 6 (home_of h right) six) g

  own_range : (a len : ℕ) (k : List LabelLine) → Own k → Own (move_range h a len k)
  own_range a len k g =
      own_two (move 11 (home_of h a)) (move 12 (home_of h len)) k (on_move 11 (home_of h a) (above 11 (omega arith)))
      (on_move 12 (home_of h len) (above 12 (omega arith))) g

  own_give : (rs to : ℕ) (k : List LabelLine) → Own k → Own (does (give rs (home_of h to)) k)
  own_give rs to k g = own_does (give rs (home_of h to)) k (on_give rs (home_of h to) (good to)) g

  -- a call of the environment, whose number goes to x17
  own_ask : (call : ℕ) (k : List LabelLine) → Own k → Own (Do (Addi 17 0 call) ∷ Do Ecall ∷ k)
  own_ask call k g = leaves (addi 17 0 call (above 17 (omega arith))) (leaves ecall g)

  own_line : (l : WordInstr) (k : List LabelLine) → Own k → Own (line_code h p l k)
  own_line (word.Label name) k g = labelled g
  own_line word.Spend k g = g
  own_line (word.SpendIf test left right) k g = g
  own_line (word.Constant to value) k g =
      own_does (constant (target h to) value) _ (on_constant (target h to) value (target_apart to)) (own_keep to k g)
  own_line (word.Copy to from) k g =
      own_does (move (target h to) (home_of h from)) _ (on_move (target h to) (home_of h from) (target_apart to)) (own_keep to k g)
  own_line (word.Compute to o left right) k g = own_both left right _ (leaves (on_operate o _ _ _ (target_apart to)) (own_keep to k g))
  own_line (word.Sum to from value) k g =
      own_two (bring 6 (home_of h from)) (sum (target h to) (right_of h from) value) _ (on_bring 6 (home_of h from) six)
      (on_sum (target h to) (right_of h from) value (target_apart to)) (own_keep to k g)
  own_line (word.Place to a) k g =
      own_does (sum (target h to) 3 (place_at p a)) _ (on_sum (target h to) 3 (place_at p a) (target_apart to)) (own_keep to k g)
  own_line (word.Datum to a) k g =
      own_does (datum (target h to) (datum_at p a)) _ (on_datum (target h to) (datum_at p a) (target_apart to)) (own_keep to k g)
  own_line (word.Load to a s) k g =
      own_does (bring 5 (home_of h a)) _ (on_bring 5 (home_of h a) five) (leaves (on_fetch s _ (left_of h a) (target_apart to)) (own_keep to k g))
  own_line (word.Store a from s) k g = own_both a from _ (leaves (on_store s (left_of h a) (right_of h from)) g)
  own_line (word.Jump to) k g = jumps g
  own_line (word.Branch test left right to) k g = own_both left right _ (branches g)
  own_line (word.Argument index from) k g =
      own_two (bring 5 (home_of h from)) (save (left_of h from) (argument_at index)) k (on_bring 5 (home_of h from) five)
      (on_save (left_of h from) (argument_at index)) g
  own_line (word.Call to callee) k g = calls (own_give 10 to k g)
  own_line (word.Return from) k g =
      own_two (move 10 (home_of h from)) (restore (is_leaf p.lines)) _ (on_move 10 (home_of h from) ten) (on_restore (is_leaf p.lines))
      (kept_return p.number h.frame p.room (sum 2 2 h.frame) (shift 3 (negative p.room)) k (stack_left h.frame p.room) g)
  own_line (word.Read to a len) k g =
      own_range a len _ (leaves (addi 10 0 0 ten) (own_ask 63 (does (give 10 (home_of h to)) k) (own_give 10 to k g)))
  own_line (word.Write stream a len) k g = own_range a len _ (leaves (addi 10 0 (stream_number stream) ten) (own_ask 64 k g))
  own_line (word.Exit status) k g = own_does (move 10 (home_of h status)) _ (on_move 10 (home_of h status) ten) (own_ask 93 k g)

  pub own_lines : (lines : List WordInstr) (k : List LabelLine) → Own k → Own (lines_code h p lines k)
  own_lines [] k g = g
  own_lines (l ∷ lines) k g = own_line l (lines_code h p lines k) (own_lines lines k g)

  -- where a label of the procedure leads
  pub own_labels : (name : ℕ) (lines : List WordInstr) (k there : List LabelLine) → Own k → from_label (Inner p.number name) k ≡ None →
      from_label (Inner p.number name) (lines_code h p lines k) ≡ Some there → Own there
  own_labels name [] k there g none e = absurd (none_some there (sym none ∙ e))
  own_labels name (l ∷ lines) k there g none e =
      let rest = lines_code h p lines k in
      let whole = line_code h p l rest in
      let behind = from_label (Inner p.number name) rest in
      let e' = sym (line_look name h p l rest) ∙ e in
      elim (cases_Bool (is_label name l)) [
        | inl t ↦ subst Own (some_same whole there (sym (cond-true (is_label name l) (Some whole) behind t) ∙ e')) (own_line l rest (own_lines lines k g))
        | inr f ↦ own_labels name lines k there g none (sym (cond-false (is_label name l) (Some whole) behind f) ∙ e')
      ]
