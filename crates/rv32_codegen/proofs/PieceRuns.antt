-- What the pieces of label code do: constants, sums, loads and saves of words of the frames.
use Rattle.std.proofs.Common.{◌≡◌, ◌≢◌, ℕ, ◌+◌, ◌-◌, ◌*◌, ◌%◌, ◌^◌, ◌<◌, ◌≤◌, List, [], ◌∷◌}
use Rattle.std.proofs.Common.{◌++◌, length, take, drop, get_or, Some, true, refl, sym, ap, subst, ◌∙◌, arith}
use Rattle.std.proofs.Common.{length-append}
use Rattle.std.specs.Prelude.{Bool, nat_lt, ◌==◌, if◌then◌else◌}
use Rattle.std.proofs.lemmas.Bool.{ltb-true, ltb-false, eqb-true, cond_both}
use Rattle.arc_base.specs.Stepping.{Goes}
use Rattle.arc_base.proofs.ForCallers.{steps_none}
use Rattle.rv32_isa.specs.declared.instr.Instr.{Instr}
use Rattle.rv32_isa.specs.declared.instr.Instr.TheVariants.{Lui, Lw, Sw, Addi, Add}
use Rattle.rv32_isa.specs.declared.label.LabelLine.{LabelLine}
use Rattle.rv32_isa.specs.declared.label.LabelLine.TheVariants.{Do}
use Rattle.rv32_isa.specs.Words.{little, word_bytes}
use Rattle.rv32_isa.specs.State.{reg, readable, put_bytes, filled}
use Rattle.rv32_isa.specs.Image.{statics_at}
use Rattle.rv32_isa.specs.Values.{added}
use Rattle.rv32_isa.specs.Steps.{signed12}
use Rattle.rv32_isa.specs.Machine.{Lives}
use Rattle.rv32_isa.specs.Labels.{Addresses}
use Rattle.rv32_isa.specs.LabelsMeaning.{led, hook_at, step}
use Rattle.rv32_isa.proofs.ForCallers.{length-word_bytes}
use Rattle.rv32_logic.specs.Registers.{put, IsRegs}
use Rattle.rv32_logic.proofs.ForCallers.{put_regs, put_same, constant_is, stack_read, stack_may, stack_put, lw_goes, sw_goes}
use Rattle.word_code.specs.Memory.{Memory}
use Rattle.rv32_codegen.specs.Code.{does, is_near, lower, upper, negative, constant, datum, sum, shift, load, save}
use Rattle.rv32_codegen.proofs.StackWords.{words, word_in, put_word, word_read, word_put, word_bytes-low}
use Rattle.rv32_codegen.proofs.Machine.{state_of, run_at, Fits, regions, word_place, Regs, put_other, put_kept, Quiet}
use Rattle.rv32_codegen.proofs.Machine.{Goes_in, then_goes, goes_within, instr_goes, writes}

-- ---- registers

-- a register got a value, the others are as they were
pub record Gets (regs new : List ℕ) (rd value frame places : ℕ) : Type 0 where
  pub kept : Regs new frame places
  pub same : get_or new rd 0 ≡ value
  pub other : (r : ℕ) → r ≢ rd → get_or new r 0 ≡ get_or regs r 0

pub put_gets : (regs : List ℕ) (rd value frame places : ℕ) → 4 < rd → rd < 32 → Regs regs frame places →
    Gets regs (put regs rd value) rd value frame places
put_gets regs rd value frame places gt lt h = record {
  kept = put_kept regs rd value frame places gt h;
  same = put_same regs rd value h.good (omega (arith, gt)) lt;
  other = λ r ne. put_other regs rd r value ne;
}

-- the same, whatever the registers hold
pub record Puts (regs new : List ℕ) (rd value : ℕ) : Type 0 where
  pub good : IsRegs new
  pub same : get_or new rd 0 ≡ value
  pub other : (r : ℕ) → r ≢ rd → get_or new r 0 ≡ get_or regs r 0

-- a register got the sum of one and a value; x5 may have changed
pub record Sums (regs new : List ℕ) (rd from value : ℕ) : Type 0 where
  pub good : IsRegs new
  pub same : get_or new rd 0 ≡ added (get_or regs from 0) value
  pub other : (r : ℕ) → r ≢ rd → r ≢ 5 → get_or new r 0 ≡ get_or regs r 0

-- x7 may have changed
pub record Saves (regs new : List ℕ) (frame places : ℕ) : Type 0 where
  pub kept : Regs new frame places
  pub other : (r : ℕ) → r ≢ 7 → get_or new r 0 ≡ get_or regs r 0

-- twelve bits with their sign that are the word
pub near_is : (value : ℕ) → value < 2 ^ 32 → is_near value ≡ true → signed12 (lower value) ≡ value
near_is value fits near =
    let lt = ltb-true ((value + 2048) % 2 ^ 32) 4096 near in
    cond_both (nat_lt (value % 4096) 2048) (value % 4096) (value % 4096 + 2 ^ 32 - 4096) (λ n. n ≡ value)
    (λ e. let low = ltb-true (value % 4096) 2048 e in omega (arith, lt, low, fits))
    (λ e. let high = ltb-false (value % 4096) 2048 e in omega (arith, lt, high, fits))

-- only the low 32 bits of a value matter
near_low : (value : ℕ) → is_near value ≡ is_near (value % 2 ^ 32)
near_low value = ap (λ n. nat_lt n 4096) (let e : (value + 2048) % 2 ^ 32 ≡ (value % 2 ^ 32 + 2048) % 2 ^ 32 = omega arith in e)

lower_low : (value : ℕ) → lower value ≡ lower (value % 2 ^ 32)
lower_low value = omega arith

upper_low : (value : ℕ) → upper value ≡ upper (value % 2 ^ 32)
upper_low value = omega arith

by_parts : (near : Bool → ℕ → ℕ → List Instr) (value : ℕ) →
    near (is_near value) (lower value) (upper value) ≡ near (is_near (value % 2 ^ 32)) (lower (value % 2 ^ 32)) (upper (value % 2 ^ 32))
by_parts f value =
    let w = value % 2 ^ 32 in
    ap (λ b. f b (lower value) (upper value)) (near_low value)
    ∙ ap (λ l. f (is_near w) l (upper value)) (lower_low value)
    ∙ ap (f (is_near w) (lower w)) (upper_low value)

constant_low : (rd value : ℕ) → constant rd value ≡ constant rd (value % 2 ^ 32)
constant_low rd value = by_parts (λ near low high. if near then Addi rd 0 low ∷ [] else Lui rd high ∷ Addi rd rd low ∷ []) value

pub sum_low : (rd from value : ℕ) → sum rd from value ≡ sum rd from (value % 2 ^ 32)
sum_low rd from value =
    by_parts (λ near low high. if near then Addi rd from low ∷ [] else Lui 5 high ∷ Addi 5 5 low ∷ Add rd from 5 ∷ []) value

module _ (live : Lives) (whole : List LabelLine) (at : Addresses) (m : Memory) (ws input : List ℕ) where
  -- instructions lead to registers that are as they should be
  abbrev pub Leads : (least most : ℕ) (regs : List ℕ) → List Instr → (rest : List LabelLine) → (List ℕ → Type 0) → Type 0
  Leads least most regs is rest Good =
      (new : List ℕ) × Goes_in live whole at least most (run_at regs m ws input (does is rest)) (run_at new m ws input rest) × Good new

  -- ---- constants

  constant_near : (regs : List ℕ) (rd value frame places : ℕ) (rest : List LabelLine) → Quiet rest → 4 < rd → rd < 32 → value < 2 ^ 32 →
      is_near value ≡ true →
      Regs regs frame places → Leads 1 2 regs (Addi rd 0 (lower value) ∷ []) rest (λ new. Gets regs new rd value frame places)
  constant_near regs rd value frame places rest quiet gt lt fits near h =
      let v = added (get_or regs 0 0) (signed12 (lower value)) in
      let v_is : v ≡ value = ap (λ n. added n (signed12 (lower value))) h.good.none ∙ ap (added 0) (near_is value fits near)
      ∙ (let g : (0 + value) % 2 ^ 32 ≡ value = omega (arith, fits) in g) in
      let one = writes live whole at m ws input regs (Addi rd 0 (lower value)) rd v rest quiet refl in (
        put regs rd v,
        goes_within live whole at 1 1 1 2 _ _ (omega arith) (omega arith) one,
        subst (λ n. Gets regs (put regs rd v) rd n frame places) v_is (put_gets regs rd v frame places gt lt h),
      )

  -- whatever the registers hold
  constant_puts : (regs : List ℕ) (rd value : ℕ) (rest : List LabelLine) → Quiet rest → 0 < rd → rd < 32 → value < 2 ^ 32 → IsRegs regs →
      Leads 1 2 regs (Lui rd (upper value) ∷ Addi rd rd (lower value) ∷ []) rest (λ new. Puts regs new rd value)
  constant_puts regs rd value rest quiet pos lt fits h =
      let high = upper value * 2 ^ 12 in
      let one = put regs rd high in
      let v = added (get_or one rd 0) (signed12 (lower value)) in
      let good = put_regs regs rd high h in
      let v_is : v ≡ value = ap (λ n. added n (signed12 (lower value))) (put_same regs rd high h pos lt) ∙ constant_is value fits in
      let a = writes live whole at m ws input regs (Lui rd (upper value)) rd high (Do (Addi rd rd (lower value)) ∷ rest) refl refl in
      let b = writes live whole at m ws input one (Addi rd rd (lower value)) rd v rest quiet refl in (
        put one rd v,
        goes_within live whole at 2 1 2 2 _ _ (omega arith) (omega arith) (then_goes live whole at 1 1 1 1 _ _ _ a b),
        record {
          good = put_regs one rd v good;
          same = put_same one rd v good pos lt ∙ v_is;
          other = λ r ne. put_other one rd r v ne ∙ put_other regs rd r high ne;
        },
      )

  constant_far : (regs : List ℕ) (rd value frame places : ℕ) (rest : List LabelLine) → Quiet rest → 4 < rd → rd < 32 → value < 2 ^ 32 →
      Regs regs frame places →
      Leads 1 2 regs (Lui rd (upper value) ∷ Addi rd rd (lower value) ∷ []) rest (λ new. Gets regs new rd value frame places)
  constant_far regs rd value frame places rest quiet gt lt fits h =
      let x = constant_puts regs rd value rest quiet (omega (arith, gt)) lt fits h.good in
      let y = x.2 in (
        x.0,
        x.1,
        record {
          kept = record {
            good = y.good;
            frame_is = y.other 2 (λ e. omega (arith, e, gt)) ∙ h.frame_is;
            places_is = y.other 3 (λ e. omega (arith, e, gt)) ∙ h.places_is;
            data_is = y.other 4 (λ e. omega (arith, e, gt)) ∙ h.data_is;
          };
          same = y.same;
          other = y.other;
        },
      )

  constant_goes : (regs : List ℕ) (rd value frame places : ℕ) (rest : List LabelLine) → Quiet rest → 4 < rd → rd < 32 → value < 2 ^ 32 →
      Regs regs frame places → Leads 1 2 regs (constant rd value) rest (λ new. Gets regs new rd value frame places)
  constant_goes regs rd value frame places rest quiet gt lt fits h =
      cond_both (is_near value) (Addi rd 0 (lower value) ∷ []) (Lui rd (upper value) ∷ Addi rd rd (lower value) ∷ [])
      (λ is. Leads 1 2 regs is rest (λ new. Gets regs new rd value frame places))
      (λ near. constant_near regs rd value frame places rest quiet gt lt fits near h)
      (λ far. constant_far regs rd value frame places rest quiet gt lt fits h)

  -- any constant is one of 32 bits
  pub constant_any : (regs : List ℕ) (rd value frame places : ℕ) (rest : List LabelLine) → Quiet rest → 4 < rd → rd < 32 →
      Regs regs frame places → Leads 1 2 regs (constant rd value) rest (λ new. Gets regs new rd (value % 2 ^ 32) frame places)
  constant_any regs rd value frame places rest quiet gt lt h =
      subst (λ is. Leads 1 2 regs is rest (λ new. Gets regs new rd (value % 2 ^ 32) frame places)) (sym (constant_low rd value))
      (constant_goes regs rd (value % 2 ^ 32) frame places rest quiet gt lt (omega arith) h)

  -- ---- addresses of data

  pub datum_any : (regs : List ℕ) (rd address frame places : ℕ) (rest : List LabelLine) → Quiet rest → 4 < rd → rd < 32 → address < 2 ^ 32 →
      Regs regs frame places → Leads 1 2 regs (datum rd address) rest (λ new. Gets regs new rd address frame places)
  datum_any regs rd address frame places rest quiet gt lt fits h =
      let offset = (address + negative statics_at) % 2 ^ 32 in
      cond_both (is_near offset) (Addi rd 4 (lower offset) ∷ []) (constant rd address)
      (λ is. Leads 1 2 regs is rest (λ new. Gets regs new rd address frame places))
      (λ near.
      let v = added (get_or regs 4 0) (signed12 (lower offset)) in
      let v_is : v ≡ address = ap (λ n. added n (signed12 (lower offset))) h.data_is ∙ ap (added statics_at) (near_is offset (omega arith) near)
      ∙ (let g : (statics_at + (address + negative statics_at) % 2 ^ 32) % 2 ^ 32 ≡ address = omega (arith, fits) in g) in
      let one = writes live whole at m ws input regs (Addi rd 4 (lower offset)) rd v rest quiet refl in (
        put regs rd v,
        goes_within live whole at 1 1 1 2 _ _ (omega arith) (omega arith) one,
        subst (λ n. Gets regs (put regs rd v) rd n frame places) v_is (put_gets regs rd v frame places gt lt h),
      ))
      (λ far. constant_goes regs rd address frame places rest quiet gt lt fits h)

  -- ---- sums

  sum_near : (regs : List ℕ) (rd from value : ℕ) (rest : List LabelLine) → Quiet rest → 0 < rd → rd < 32 → value < 2 ^ 32 →
      is_near value ≡ true →
      IsRegs regs → Leads 1 3 regs (Addi rd from (lower value) ∷ []) rest (λ new. Sums regs new rd from value)
  sum_near regs rd from value rest quiet pos lt fits near h =
      let v = added (get_or regs from 0) (signed12 (lower value)) in
      let one = writes live whole at m ws input regs (Addi rd from (lower value)) rd v rest quiet refl in (
        put regs rd v,
        goes_within live whole at 1 1 1 3 _ _ (omega arith) (omega arith) one,
        record {
          good = put_regs regs rd v h;
          same = put_same regs rd v h pos lt ∙ ap (added (get_or regs from 0)) (near_is value fits near);
          other = λ r ne five. put_other regs rd r v ne;
        },
      )

  sum_far : (regs : List ℕ) (rd from value : ℕ) (rest : List LabelLine) → Quiet rest → 0 < rd → rd < 32 → from ≢ 5 → value < 2 ^ 32 →
      IsRegs regs →
      Leads 1 3 regs (Lui 5 (upper value) ∷ Addi 5 5 (lower value) ∷ Add rd from 5 ∷ []) rest (λ new. Sums regs new rd from value)
  sum_far regs rd from value rest quiet pos lt ne fits h =
      let x = constant_puts regs 5 value (Do (Add rd from 5) ∷ rest) refl (omega arith) (omega arith) fits h in
      let one = x.0 in
      let v = added (get_or one from 0) (get_or one 5 0) in
      let b = writes live whole at m ws input one (Add rd from 5) rd v rest quiet refl in
      let v_is : v ≡ added (get_or regs from 0) value = ap (λ n. added n (get_or one 5 0)) (x.2.other from ne)
      ∙ ap (added (get_or regs from 0)) x.2.same in (
        put one rd v,
        goes_within live whole at 2 1 3 3 _ _ (omega arith) (omega arith) (then_goes live whole at 1 1 2 1 _ _ _ x.1 b),
        record {
          good = put_regs one rd v x.2.good;
          same = put_same one rd v x.2.good pos lt ∙ v_is;
          other = λ r not_rd not_5. put_other one rd r v not_rd ∙ x.2.other r not_5;
        },
      )

  sum_goes : (regs : List ℕ) (rd from value : ℕ) (rest : List LabelLine) → Quiet rest → 0 < rd → rd < 32 → from ≢ 5 → value < 2 ^ 32 →
      IsRegs regs →
      Leads 1 3 regs (sum rd from value) rest (λ new. Sums regs new rd from value)
  sum_goes regs rd from value rest quiet pos lt ne fits h =
      cond_both (is_near value) (Addi rd from (lower value) ∷ []) (Lui 5 (upper value) ∷ Addi 5 5 (lower value) ∷ Add rd from 5 ∷ [])
      (λ is. Leads 1 3 regs is rest (λ new. Sums regs new rd from value))
      (λ near. sum_near regs rd from value rest quiet pos lt fits near h)
      (λ far. sum_far regs rd from value rest quiet pos lt ne fits h)

  pub sum_any : (regs : List ℕ) (rd from value : ℕ) (rest : List LabelLine) → Quiet rest → 0 < rd → rd < 32 → from ≢ 5 → IsRegs regs →
      Leads 1 3 regs (sum rd from value) rest (λ new. Sums regs new rd from value)
  sum_any regs rd from value rest quiet pos lt ne h =
      let x = sum_goes regs rd from (value % 2 ^ 32) rest quiet pos lt ne (omega arith) h in
      let a = get_or regs from 0 in (
        x.0,
        subst (λ is. Goes_in live whole at 1 3 (run_at regs m ws input (does is rest)) (run_at x.0 m ws input rest)) (sym (sum_low rd from value)) x.1,
        record {
          good = x.2.good;
          same = x.2.same ∙ (let g : (a + value % 2 ^ 32) % 2 ^ 32 ≡ (a + value) % 2 ^ 32 = omega arith in g);
          other = x.2.other;
        },
      )

  -- a register that holds a word becomes so much more
  pub shift_any : (regs : List ℕ) (rd amount : ℕ) (rest : List LabelLine) → Quiet rest → 0 < rd → rd < 32 → rd ≢ 5 →
      get_or regs rd 0 < 2 ^ 32 →
      IsRegs regs → Leads 0 3 regs (shift rd amount) rest (λ new. Sums regs new rd rd amount)
  shift_any regs rd amount rest quiet pos lt ne small h =
      cond_both (amount == 0) [] (sum rd rd amount) (λ is. Leads 0 3 regs is rest (λ new. Sums regs new rd rd amount))
      (λ e. let zero = eqb-true amount 0 e in (
        regs,
        steps_none (step live whole at) (run_at regs m ws input rest) 3,
        record {
          good = h;
          same = (let g : get_or regs rd 0 ≡ (get_or regs rd 0 + amount) % 2 ^ 32 = omega (arith, zero, small) in g);
          other = λ r _ _. refl;
        },
      ))
      (λ e. let x = sum_any regs rd rd amount rest quiet pos lt ne h in (x.0, goes_within live whole at 1 0 3 3 _ _ (omega arith) (omega arith) x.1, x.2))

  -- ---- words of the frames

  -- a load of a word whose address is so far from a register
  pub lw_at : (regs : List ℕ) (rd rs offset k w : ℕ) (rest : List LabelLine) → Quiet rest →
      added (get_or regs rs 0) (signed12 offset) ≡ word_place m k →
      k < words ws → word_in ws k ≡ w → w < 2 ^ 32 → Fits m ws →
      Goes_in live whole at 1 1 (run_at regs m ws input (Do (Lw rd rs offset) ∷ rest)) (run_at (put regs rd w) m ws input rest)
  lw_at regs rd rs offset k w rest quiet place within word_is small room =
      let s = state_of regs m ws in
      let at_k = word_place m k in
      let bytes = take 4 (drop (length m.places + 4 * k) (m.places ++ ws)) in
      let whole_words = room.whole in
      let read : readable s at_k 4 ≡ Some bytes =
      stack_read s (length m.places + 4 * k) 4 (regions regs m ws room) (omega arith) (omega (arith, length-append m.places ws, within)) in
      let value : little bytes ≡ w = word_read m.places ws k ∙ word_is in
      let goes = lw_goes s 0 0 rd rs offset at_k bytes place (omega arith) read (omega (arith, value, small)) in
      instr_goes live whole at m ws input regs (Lw rd rs offset) (state_of (put regs rd w) m ws) rest quiet
      (ap (led live whole at (run_at regs m ws input (Do (Lw rd rs offset) ∷ rest)) rest) goes
      ∙ ap (λ n. Goes ([] ++ hook_at rest) 1 (run_at (put regs rd n) m ws input rest)) value)

  -- a store to it
  pub sw_at : (regs : List ℕ) (rs1 rs offset k w : ℕ) (rest : List LabelLine) → Quiet rest →
      added (get_or regs rs1 0) (signed12 offset) ≡ word_place m k →
      k < words ws → get_or regs rs 0 ≡ w → Fits m ws →
      Goes_in live whole at 1 1 (run_at regs m ws input (Do (Sw rs1 rs offset) ∷ rest)) (run_at regs m (put_word ws k (w % 2 ^ 32)) input rest)
  sw_at regs rs1 rs offset k w rest quiet place within word_is room =
      let s = state_of regs m ws in
      let at_k = word_place m k in
      let d = length m.places + 4 * k in
      let whole_words = room.whole in
      let new = put_word ws k (w % 2 ^ 32) in
      let next = state_of regs m new in
      let four = length-word_bytes w in
      let inside : d + 4 ≤ length s.stack = omega (arith, length-append m.places ws, within) in
      let is : filled s at_k (word_bytes (reg s rs)) ≡ next =
      ap (λ n. filled s at_k (word_bytes n)) word_is
      ∙ stack_put s d (word_bytes w) (regions regs m ws room) (omega (arith, four)) (omega (arith, four, inside))
      ∙ ap (λ l. record s { stack = put_bytes s.stack d l }) (word_bytes-low w)
      ∙ ap (λ l. record s { stack = l }) (word_put m.places ws k (w % 2 ^ 32)) in
      let goes = sw_goes s next 0 0 rs1 rs offset at_k place (omega arith) (stack_may s d 4 inside) is in
      instr_goes live whole at m ws input regs (Sw rs1 rs offset) next rest quiet
      (ap (led live whole at (run_at regs m ws input (Do (Sw rs1 rs offset) ∷ rest)) rest) goes)

  -- the upper part of an address, and the frame
  record Reached (regs new : List ℕ) (rd offset frame places : ℕ) : Type 0 where
    kept : Regs new frame places
    place : added (get_or new rd 0) (signed12 (lower offset)) ≡ added frame offset
    other : (r : ℕ) → r ≢ rd → get_or new r 0 ≡ get_or regs r 0

  sum_is : (high low frame offset : ℕ) → added high low ≡ offset → added (added high frame) low ≡ added frame offset
  sum_is high low frame offset e = omega (arith, e)

  reach_goes : (regs : List ℕ) (rd offset frame places : ℕ) (rest : List LabelLine) → Quiet rest → 4 < rd → rd < 32 → offset < 2 ^ 32 →
      Regs regs frame places →
      Leads 2 2 regs (Lui rd (upper offset) ∷ Add rd rd 2 ∷ []) rest (λ new. Reached regs new rd offset frame places)
  reach_goes regs rd offset frame places rest quiet gt lt fits h =
      let high = upper offset * 2 ^ 12 in
      let low = signed12 (lower offset) in
      let one = put regs rd high in
      let v = added (get_or one rd 0) (get_or one 2 0) in
      let x = put_gets regs rd high frame places gt lt h in
      let a = writes live whole at m ws input regs (Lui rd (upper offset)) rd high (Do (Add rd rd 2) ∷ rest) refl refl in
      let b = writes live whole at m ws input one (Add rd rd 2) rd v rest quiet refl in
      let y = put_gets one rd v frame places gt lt x.kept in
      let v_is : v ≡ added high frame = ap (λ n. added n (get_or one 2 0)) x.same ∙ ap (added high) x.kept.frame_is in (
        put one rd v,
        then_goes live whole at 1 1 1 1 _ _ _ a b,
        record {
          kept = y.kept;
          place = ap (λ n. added n low) (y.same ∙ v_is) ∙ sum_is high low frame offset (constant_is offset fits);
          other = λ r ne. y.other r ne ∙ x.other r ne;
        },
      )

  near_place : (regs : List ℕ) (offset frame places : ℕ) → offset < 2 ^ 32 → is_near offset ≡ true → Regs regs frame places →
      added (get_or regs 2 0) (signed12 (lower offset)) ≡ added frame offset
  near_place regs offset frame places fits near h = ap (λ n. added n (signed12 (lower offset))) h.frame_is ∙ ap (added frame) (near_is offset fits near)

  -- a word that is so far from where the frame begins, into a register
  module _ (regs : List ℕ) (rd offset k w frame places : ℕ) (rest : List LabelLine) (quiet : Quiet rest) (fits : offset < 2 ^ 32)
      (place : added frame offset ≡ word_place m k) (within : k < words ws) (room : Fits m ws) (h : Regs regs frame places) where
    pub load_goes : 4 < rd → rd < 32 → word_in ws k ≡ w → w < 2 ^ 32 →
        Leads 1 3 regs (load rd offset) rest (λ new. Gets regs new rd w frame places)
    load_goes gt lt word_is small =
        cond_both (is_near offset) (Lw rd 2 (lower offset) ∷ []) (Lui rd (upper offset) ∷ Add rd rd 2 ∷ Lw rd rd (lower offset) ∷ [])
        (λ is. Leads 1 3 regs is rest (λ new. Gets regs new rd w frame places))
        (λ near.
        let a = lw_at regs rd 2 (lower offset) k w rest quiet (near_place regs offset frame places fits near h ∙ place) within word_is small room in
        (put regs rd w, goes_within live whole at 1 1 1 3 _ _ (omega arith) (omega arith) a, put_gets regs rd w frame places gt lt h))
        (λ far.
        let x = reach_goes regs rd offset frame places (Do (Lw rd rd (lower offset)) ∷ rest) refl gt lt fits h in
        let a = lw_at x.0 rd rd (lower offset) k w rest quiet (x.2.place ∙ place) within word_is small room in
        let y = put_gets x.0 rd w frame places gt lt x.2.kept in (
          put x.0 rd w,
          goes_within live whole at 3 1 3 3 _ _ (omega arith) (omega arith) (then_goes live whole at 2 1 2 1 _ _ _ x.1 a),
          record { kept = y.kept; same = y.same; other = λ r ne. y.other r ne ∙ x.2.other r ne },
        ))

    -- a register into such a word
    pub save_goes : rd ≢ 7 → get_or regs rd 0 ≡ w → (new : List ℕ)
        × Goes_in live whole at 1 3 (run_at regs m ws input (does (save rd offset) rest)) (run_at new m (put_word ws k (w % 2 ^ 32)) input rest)
        × Saves regs new frame places
    save_goes ne word_is =
        cond_both (is_near offset) (Sw 2 rd (lower offset) ∷ []) (Lui 7 (upper offset) ∷ Add 7 7 2 ∷ Sw 7 rd (lower offset) ∷ [])
        (λ is. (new : List ℕ) × Goes_in live whole at 1 3 (run_at regs m ws input (does is rest)) (run_at new m (put_word ws k (w % 2 ^ 32)) input rest)
        × Saves regs new frame places)
        (λ near.
        let a = sw_at regs 2 rd (lower offset) k w rest quiet (near_place regs offset frame places fits near h ∙ place) within word_is room in
        (regs, goes_within live whole at 1 1 1 3 _ _ (omega arith) (omega arith) a, record { kept = h; other = λ r _. refl }))
        (λ far.
        let x = reach_goes regs 7 offset frame places (Do (Sw 7 rd (lower offset)) ∷ rest) refl (omega arith) (omega arith) fits h in
        let a = sw_at x.0 7 rd (lower offset) k w rest quiet (x.2.place ∙ place) within (x.2.other rd ne ∙ word_is) room in (
          x.0,
          goes_within live whole at 3 1 3 3 _ _ (omega arith) (omega arith) (then_goes live whole at 2 1 2 1 _ _ _ x.1 a),
          record { kept = x.2.kept; other = x.2.other },
        ))
