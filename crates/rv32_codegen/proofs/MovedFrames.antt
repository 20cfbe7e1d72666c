-- Instructions that move x2, where frames begin, or x3, where places end.
use Rattle.std.proofs.Common.{◌≡◌, ◌≢◌, ℕ, suc, ◌+◌, ◌*◌, ◌/◌, ◌%◌, ◌^◌, ◌<◌, List, [], ◌∷◌, ◌++◌}
use Rattle.std.proofs.Common.{length, get_or, set, true, Some, refl, sym, ap, subst, ◌∙◌, arith, length-set}
use Rattle.std.specs.Prelude.{◌==◌}
use Rattle.std.proofs.lemmas.Bool.{cond_both, eqb-true}
use Rattle.std.proofs.lemmas.List.{get_or-set_same, get_or-set_other}
use Rattle.rv32_isa.specs.declared.instr.Instr.{Instr}
use Rattle.rv32_isa.specs.declared.instr.Instr.TheVariants.{Lui, Lw, Addi, Add}
use Rattle.rv32_isa.specs.declared.label.LabelLine.{LabelLine}
use Rattle.rv32_isa.specs.Words.{little, word_bytes}
use Rattle.rv32_isa.specs.Image.{statics_at, stack_at}
use Rattle.rv32_isa.specs.State.{State, reg, skip, readable}
use Rattle.rv32_isa.specs.Values.{added}
use Rattle.rv32_isa.specs.Steps.{Goes, signed12, obey}
use Rattle.rv32_isa.specs.LabelsMeaning as labels
use Rattle.rv32_isa.proofs.ForCallers.{little-word_bytes, length-word_bytes}
use Rattle.rv32_logic.specs.Data.{Holds}
use Rattle.rv32_logic.specs.Placed.{moved}
use Rattle.rv32_logic.proofs.ForCallers.{constant_is, holds_read, lw_goes}
use Rattle.word_code.specs.Memory.{data_of}
use Rattle.rv32_codegen.specs.Code.{is_near, lower, upper, negative, sum, shift, start_code}
use Rattle.rv32_codegen.specs.Lowering.{HoldsBehind, there, first, up_by, down_by, Moved, MovesStack, SetUp}
use Rattle.rv32_codegen.proofs.PieceRuns.{near_is, sum_low}

-- a register has another word; the others but x5 are as they were
record Became (old new : State) (rd value : ℕ) : Type 0 where
  is : reg new rd ≡ value
  others : (r : ℕ) → r ≢ rd → r ≢ 5 → reg new r ≡ reg old r
  long : length new.regs ≡ 32

-- ---- sums

module _ (There : State → Type 0) (s : State) (r value : ℕ) (long : length s.regs ≡ 32) (lt : suc r < 32) (ne : suc r ≢ 5)
    (small : value < 2 ^ 32) (so : (t : State) → Became s t (suc r) (added (reg s (suc r)) value) → There t) where
  near_comes : is_near value ≡ true → HoldsBehind There s (Addi (suc r) (suc r) (lower value) ∷ [])
  near_comes near =
      let v = added (reg s (suc r)) (signed12 (lower value)) in
      let t = skip (record s { regs = set s.regs (suc r) v }) in
      first refl refl (there (so t (record {
        is = get_or-set_same s.regs (suc r) v 0 (omega (arith, long, lt)) ∙ ap (added (reg s (suc r))) (near_is value small near);
        others = λ o other five. get_or-set_other s.regs (suc r) o v 0 other;
        long = length-set s.regs (suc r) v ∙ long;
      })))

  -- x5 gets the value first
  far_comes : HoldsBehind There s (Lui 5 (upper value) ∷ Addi 5 5 (lower value) ∷ Add (suc r) (suc r) 5 ∷ [])
  far_comes =
      let high = upper value * 2 ^ 12 in
      let one = set s.regs 5 high in
      let low = added (get_or one 5 0) (signed12 (lower value)) in
      let two = set one 5 low in
      let v = added (get_or two (suc r) 0) (get_or two 5 0) in
      let one_long : length one ≡ 32 = length-set s.regs 5 high ∙ long in
      let two_long : length two ≡ 32 = length-set one 5 low ∙ one_long in
      let five : get_or two 5 0 ≡ value =
      get_or-set_same one 5 low 0 (omega (arith, one_long))
      ∙ ap (λ x. added x (signed12 (lower value))) (get_or-set_same s.regs 5 high 0 (omega (arith, long)))
      ∙ constant_is value small in
      let kept : (o : ℕ) → o ≢ 5 → get_or two o 0 ≡ reg s o =
      λ o other. get_or-set_other one 5 o low 0 other ∙ get_or-set_other s.regs 5 o high 0 other in
      let t = skip (record (skip (record (skip (record s { regs = one })) { regs = two })) { regs = set two (suc r) v }) in
      first refl refl (first refl refl (first refl refl (there (so t (record {
        is = get_or-set_same two (suc r) v 0 (omega (arith, two_long, lt)) ∙ ap (λ x. added x (get_or two 5 0)) (kept (suc r) ne)
            ∙ ap (added (reg s (suc r))) five;
        others = λ o other apart. get_or-set_other two (suc r) o v 0 other ∙ kept o apart;
        long = length-set two (suc r) v ∙ two_long;
      })))))

low_sum : (a value : ℕ) → added a (value % 2 ^ 32) ≡ up_by value a
low_sum a value = omega arith

-- a register becomes so much more
sum_comes : (There : State → Type 0) (s : State) (r value : ℕ) → length s.regs ≡ 32 → suc r < 32 → suc r ≢ 5 →
    ((t : State) → Became s t (suc r) (up_by value (reg s (suc r))) → There t) → HoldsBehind There s (sum (suc r) (suc r) value)
sum_comes There s r value long lt ne so =
    let w = value % 2 ^ 32 in
    let small : w < 2 ^ 32 = omega arith in
    let to : (t : State) → Became s t (suc r) (added (reg s (suc r)) w) → There t =
    λ t b. so t (record { is = b.is ∙ low_sum (reg s (suc r)) value; others = b.others; long = b.long }) in
    subst (HoldsBehind There s) (sym (sum_low (suc r) (suc r) value))
    (cond_both (is_near w) (Addi (suc r) (suc r) (lower w) ∷ []) (Lui 5 (upper w) ∷ Addi 5 5 (lower w) ∷ Add (suc r) (suc r) 5 ∷ [])
    (HoldsBehind There s) (λ near. near_comes There s r w long lt ne small to near) (λ far. far_comes There s r w long lt ne small to))

lower_is : (address bytes : ℕ) → up_by (negative bytes) address ≡ down_by bytes address
lower_is address bytes = omega arith

unmoved : (address bytes : ℕ) → address < 2 ^ 32 → bytes ≡ 0 → address ≡ up_by bytes address
unmoved address bytes small e = omega (arith, small, e)

-- the same, where it is none if it becomes no more
shift_comes : (There : State → Type 0) (s : State) (r amount : ℕ) → length s.regs ≡ 32 → suc r < 32 → suc r ≢ 5 → reg s (suc r) < 2 ^ 32 →
    ((t : State) → Became s t (suc r) (up_by amount (reg s (suc r))) → There t) → HoldsBehind There s (shift (suc r) amount)
shift_comes There s r amount long lt ne small so =
    cond_both (amount == 0) [] (sum (suc r) (suc r) amount) (HoldsBehind There s)
    (λ e. there (so s (record {
      is = unmoved (reg s (suc r)) amount small (eqb-true amount 0 e);
      others = λ o other five. refl;
      long = long;
    })))
    (λ e. sum_comes There s r amount long lt ne so)

-- ---- frames and places

-- instructions, and then others
behind_both : (Mid There : State → Type 0) {s : State} {a : List Instr} (b : List Instr) → HoldsBehind Mid s a →
    ((t : State) → Mid t → HoldsBehind There t b) → HoldsBehind There s (a ++ b)
behind_both Mid There b (there {s = t} m) go = go t m
behind_both Mid There b (first on goes h) go = first on goes (behind_both Mid There b h go)

-- x2 and then x3 move
both_move : (frame places : ℕ → ℕ) (s : State) (by more : ℕ) → length s.regs ≡ 32 → reg s 3 < 2 ^ 32 →
    up_by by (reg s 2) ≡ frame (reg s 2) → up_by more (reg s 3) ≡ places (reg s 3) → HoldsBehind (Moved frame places s) s (sum 2 2 by ++ shift 3 more)
both_move frame places s by more long small two three =
    let Mid : State → Type 0 = λ t. Became s t 2 (up_by by (reg s 2)) in
    behind_both Mid (Moved frame places s) (shift 3 more) (sum_comes Mid s 1 by long (omega arith) (λ e. omega (arith, e)) (λ t b. b))
    (λ t b.
    let same : reg t 3 ≡ reg s 3 = b.others 3 (λ e. omega (arith, e)) (λ e. omega (arith, e)) in
    shift_comes (Moved frame places s) t 2 more b.long (omega arith) (λ e. omega (arith, e)) (subst (λ n. n < 2 ^ 32) (sym same) small)
    (λ u d. (d.others 2 (λ e. omega (arith, e)) (λ e. omega (arith, e)) ∙ b.is ∙ two, d.is ∙ ap (up_by more) same ∙ three)))

pub stack_made : (frame room : ℕ) → MovesStack (down_by frame) (up_by room) (sum 2 2 (negative frame) ++ shift 3 room)
stack_made frame room s long two three =
    both_move (down_by frame) (up_by room) s (negative frame) room long three (lower_is (reg s 2) frame) refl

pub stack_left : (frame room : ℕ) → MovesStack (up_by frame) (down_by room) (sum 2 2 frame ++ shift 3 (negative room))
stack_left frame room s long two three =
    both_move (up_by frame) (down_by room) s frame (negative room) long three refl (lower_is (reg s 3) room)

-- ---- the start

abbrev set_up : List Instr
set_up = Lui 4 (statics_at / 4096) ∷ Lw 2 4 4 ∷ Lui 3 (stack_at / 4096) ∷ Add 2 2 3 ∷ []

-- the size of the stack stands in the data
size_read : (s : State) (statics : List ℕ) (heap stack : ℕ) → s.statics ≡ data_of heap stack statics → s.code ≡ [] →
    readable s (statics_at + 4) 4 ≡ Some (word_bytes stack)
size_read s statics heap stack is none =
    let a = length-word_bytes heap in
    let b = length-word_bytes stack in
    let holds : Holds (data_of heap stack statics) (statics_at + 4) (word_bytes stack) =
    record { pre = word_bytes heap; post = statics; data_is = refl; at_is = ap (λ n. statics_at + n) (sym a) } in
    let short : length s.code ≡ 0 = ap length none in
    ap (readable s (statics_at + 4)) (sym b)
    ∙ holds_read s (data_of heap stack statics) (statics_at + 4) (word_bytes stack) is holds (omega (arith, b)) (omega (arith, short))

end_is : (size stack : ℕ) → size ≡ stack → stack_at + stack < 2 ^ 32 → added size stack_at ≡ stack_at + stack
end_is size stack e small = omega (arith, e, small)

start_comes : (lines : List LabelLine) (statics : List ℕ) (heap stack : ℕ) (input : List ℕ) → stack_at + stack < 2 ^ 32 →
    HoldsBehind (λ t. (reg t 2 ≡ stack_at + stack) × (reg t 3 ≡ stack_at)) (labels.start lines (data_of heap stack statics) heap stack input).state set_up
unfolding labels.start
start_comes lines statics heap stack input small =
    let s = (labels.start lines (data_of heap stack statics) heap stack input).state in
    let one = set s.regs 4 (statics_at / 4096 * 2 ^ 12) in
    let s1 = skip (record s { regs = one }) in
    let size = little (word_bytes stack) in
    let size_is : size ≡ stack = little-word_bytes stack (omega (arith, small)) in
    let s2 = moved s1 (set one 2 size) ((s1.pc + 4) % 2 ^ 32) in
    let goes : obey s1 0 0 (Lw 2 4 4) ≡ Goes s2 =
    lw_goes s1 0 0 2 4 4 (statics_at + 4) (word_bytes stack) refl refl (size_read s1 statics heap stack refl refl)
    (let e : little (word_bytes stack) ≡ stack = size_is in omega (arith, e, small)) in
    first refl refl (first refl goes (first refl refl (first refl refl (there (end_is size stack size_is small, refl)))))

pub sets_up : (k : List LabelLine) → SetUp (start_code k)
sets_up k = record { made = set_up; rest = k; begins = refl; makes = start_comes (start_code k) }
