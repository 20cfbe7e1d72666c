-- Code that writes ordinals.
use Rattle.std.proofs.Common.{◌≡◌, ℕ, ◌+◌, ◌*◌, ◌%◌, ◌^◌, ◌<◌, ◌≤◌, ℤ, pos, negsuc, List}
use Rattle.std.proofs.Common.{[], ◌∷◌, length, Some, true, Ok, Err, refl, ap, subst, ◌∙◌}
use Rattle.std.proofs.Common.{arith}
use Rattle.std.specs.Prelude.{◌==◌, if◌then◌else◌}
use Rattle.std.specs.Fmt.{signed_decimal}
use Rattle.std.proofs.lemmas.Fmt.{decimal_nonempty}
use Rattle.std.proofs.lemmas.Int.{ints}
use Rattle.arc_base.specs.Event.{writes}
use Rattle.arc_base.specs.declared.outside.Stream.TheVariants.{Out}
use Rattle.rv32_isa.specs.Values.{added, subtracted, shifted_left}
use Rattle.rv32_isa.specs.declared.micro_op.Size.TheVariants.{Byte, Word}
use Rattle.rv32_isa.specs.declared.machine.FaultKind.TheVariants.{Misaligned}
use Rattle.rv32_isa.specs.Steps.{number_of, low_bytes}
use Rattle.nim_program.specs.Ints.{fits as is_int_number}
use Rattle.flat_code.specs.declared.block.BlockLine.{BlockLine}
use Rattle.word_code.specs.declared.word.WordOperation.TheVariants as operation
use Rattle.word_code.specs.declared.word.WordInstr.{WordInstr}
use Rattle.word_code.specs.declared.word.WordInstr.TheVariants.{Constant, Compute, Datum, Load, Store}
use Rattle.word_code.specs.Memory.{Memory, bytes_at, number_at, with_number}
use Rattle.word_code.specs.Words.{Vars, no_words, put}
use Rattle.word_code.proofs.ForCallers.{got, at, on, then_runs, run_datum, run_constant, run_compute, run_load, run_store, AlwaysSteps}
use Rattle.word_lowering.specs.Lowered.{data_at}
use Rattle.word_lowering.specs.declared.homes.TheConstants.{FIRST, SECOND, THIRD, OWN_FROM}
use Rattle.word_lowering.specs.declared.texts.TheConstants.{FIXED_BYTES, FALSE_AT}
use Rattle.word_lowering.specs.Operations.{word}
use Rattle.word_lowering.specs.LineCode.{write_code, number_code, bool_code, char_code, name_code}
use Rattle.word_lowering.proofs.OrdinalRuns.{AllSame, put_low}
use Rattle.word_lowering.proofs.Moves.{same_first, same_second, same_third, same_more}
use Rattle.word_lowering.proofs.Sites.{data_end}
use Rattle.word_lowering.proofs.Related.{Both, within, IsText, sites_of}
use Rattle.word_lowering.proofs.Lines.{Basis, all_procs, starts, IsGood, lower}
use Rattle.word_lowering.proofs.TextLines.{TextAt, text_still, write_one}
use Rattle.word_lowering.proofs.Told.{Tells, told_letter, told_none, told_scratch}
use Rattle.rv32_isa.specs.Words.{word_bytes}
use Rattle.rv32_isa.specs.Values.{signed}
use Rattle.word_code.specs.declared.routine.TheConstants.{NUMBER}
use Rattle.word_code.specs.declared.word.WordInstr.TheVariants.{Call}
use Rattle.word_code.specs.RoutineTable.{WritesNumber}
use Rattle.word_code.proofs.ForCallers.{run_argument, store_here, store_rewritten}
use Rattle.word_lowering.proofs.Arithmetic.{fits_signed, signed_word, word_small}
use Rattle.word_lowering.proofs.RoutineCalls.{awaiting}
use Rattle.word_lowering.proofs.Lines.{data_there, letter_there}

-- a name in the data: where it begins, and where it ends, behind the names before it
pub record NameAt (x : Basis) (ends names a : ℕ) (text : List ℕ) : Type 0 where
  pub from : ℕ
  pub some : 1 ≤ length text
  pub here : TextAt x (names + from) text
  pub begins : number_at x.first (data_at + (ends + 4 * a)) Word ≡ Ok from
  pub begins_text : IsText x.table x.blocks (data_at + (ends + 4 * a)) 4
  pub closes : number_at x.first (data_at + (ends + 4 * a) + 4) Word ≡ Ok (from + length text)
  pub closes_text : IsText x.table x.blocks (data_at + (ends + 4 * a) + 4) 4
  pub small : data_at + (ends + 4 * a) + 4 < 2 ^ 32

pub one_byte : (n : ℕ) → n < 256 → low_bytes Byte n ≡ n ∷ []
unfolding word_bytes
one_byte n small = let e : n % 256 ≡ n = omega (arith, small) in ap (λ b. b ∷ []) e

number_some : (z : ℤ) → is_int_number z ≡ true → 1 ≤ length (signed_decimal z)
number_some (pos n) f = let h = fits_signed (pos n) f in decimal_nonempty n (omega (arith, ints, h))
number_some (negsuc n) f = omega arith

module _ (x : Basis) (least : FIXED_BYTES ≤ data_end x.table x.blocks) (g : Both) (line : BlockLine) (rest : List BlockLine)
    (y : IsGood x (starts g line rest)) where
  word_still : (b : ℕ) → IsText x.table x.blocks b 4 → number_at g.memory b Word ≡ number_at x.first b Word
  word_still b h = ap (λ o. if b % 4 == 0 then number_of o else Err Misaligned) (y.memory.texts b 4 h)

  -- ---- an int

  pub number_tells : (z : ℤ) (from : ℕ) (k : List WordInstr) → is_int_number z ≡ true → g.call.vars from ≡ Some (word z)
      → Tells x least g line rest y 1 (number_code from k) k (signed_decimal z)
  number_tells z from k f e =
      let v : Vars = g.call.vars in
      let words : Vars = put g.words 0 (word z) in
      let small = word_small z f in
      let r1 = run_argument x.live (all_procs x) (within x.table x.blocks g) g.memory (Call FIRST NUMBER ∷ k) v g.words 0 from e in
      let called = x.kept WritesNumber (word z) (at (within x.table x.blocks g) g.memory (Call FIRST NUMBER ∷ k) v words) FIRST k
      (record { next = refl; given = (got (word z) small, tt) }) y.memory.sized (data_there x (sites_of g) g.memory y.memory) small in
      let all = on (lower x) r1 (record { by = called.steps }) in
      let few = called.few in
      let some = number_some z f in
      let text : signed_decimal (signed (word z)) ≡ signed_decimal z = ap signed_decimal (signed_word z f) in
      let long = ap length text in
      record {
        vars = put v FIRST called.word;
        same = same_first v called.word;
        memory = called.memory;
        told = told_scratch x least (sites_of g) g.memory called.memory y.memory called.leaves;
        words = no_words;
        awaits = FIRST;
        count = 1 + called.lines;
        few = omega (arith, few, long, some);
        steps = subst (λ t. AlwaysSteps (lower x) (1 + called.lines) (at (within x.table x.blocks g) g.memory (number_code from k) v g.words) (writes Out t)
            (1 + called.lines) (at (awaiting (within x.table x.blocks g) FIRST) called.memory k (put v FIRST called.word) no_words)) text all;
      }

  -- ---- a char

  pub char_tells : (n from : ℕ) (k : List WordInstr) → n < 256 → OWN_FROM ≤ from → g.call.vars from ≡ Some n
      → Tells x least g line rest y 1 (char_code from k) k (n ∷ [])
  char_tells n from k small high e =
      let m : Memory = g.memory in
      let m1 : Memory = with_number m data_at Byte n in
      let a : ℕ = data_at + 0 + 0 in
      let v1 : Vars = put g.call.vars FIRST a in
      let v2 : Vars = put v1 SECOND 1 in
      let may = letter_there x (sites_of g) m y.memory in
      let l3 : List WordInstr = write_code k in
      let l2 : List WordInstr = Constant SECOND 1 ∷ l3 in
      let l1 : List WordInstr = Store FIRST from Byte ∷ l2 in
      let e1 : v1 FIRST ≡ Some data_at = got data_at (omega arith) in
      let e2 : v1 from ≡ Some n = put_low g.call.vars FIRST a from (omega arith) high ∙ e in
      let r1 = run_datum x.live (all_procs x) (within x.table x.blocks g) m l1 g.call.vars g.words FIRST 0 in
      let r2 = run_store x.live (all_procs x) (within x.table x.blocks g) m l2 v1 g.words FIRST from Byte e1 e2 may in
      let r3 = run_constant x.live (all_procs x) (within x.table x.blocks g) m1 l3 v1 g.words SECOND 1 in
      let here : bytes_at m1 data_at 1 ≡ Some (n ∷ [])
      = store_here x.law m data_at Byte n y.memory.sized may ∙ ap Some (one_byte n small) in
      record {
        vars = v2;
        same = same_more g.call.vars v1 v2 (same_first g.call.vars a) (same_second v1 1);
        memory = m1;
        told = told_letter x least (sites_of g) m m1 y.memory (store_rewritten x.law m data_at Byte n y.memory.sized may);
        words = g.words;
        awaits = g.awaits;
        count = 4;
        few = omega arith;
        steps = on (lower x) (then_runs x.live (all_procs x) (then_runs x.live (all_procs x) r1 r2) r3)
            (write_one x least g line rest y m1 k v2 data_at 1 (n ∷ []) e1 refl here);
      }

  -- ---- a bool

  pub bool_tells : (a from : ℕ) (text : List ℕ) (k : List WordInstr) → a < 2 → length text + a ≡ 5 → TextAt x (8 + 8 * a) text
      → OWN_FROM ≤ from
      → g.call.vars from ≡ Some a → Tells x least g line rest y 1 (bool_code from k) k text
  bool_tells a from text k less long t high e =
      let m : Memory = g.memory in
      let v : Vars = g.call.vars in
      let v1 : Vars = put v FIRST 3 in
      let v2 : Vars = put v1 FIRST (shifted_left a 3) in
      let v3 : Vars = put v2 SECOND (data_at + 0 + 8) in
      let v4 : Vars = put v3 FIRST (added (data_at + 0 + 8) (8 * a)) in
      let v5 : Vars = put v4 SECOND 5 in
      let v6 : Vars = put v5 SECOND (subtracted 5 a) in
      let s1 : AllSame v v1 = same_first v 3 in
      let s2 : AllSame v v2 = same_more v v1 v2 s1 (same_first v1 (shifted_left a 3)) in
      let s3 : AllSame v v3 = same_more v v2 v3 s2 (same_second v2 (data_at + 0 + 8)) in
      let s4 : AllSame v v4 = same_more v v3 v4 s3 (same_first v3 (added (data_at + 0 + 8) (8 * a))) in
      let s5 : AllSame v v5 = same_more v v4 v5 s4 (same_second v4 5) in
      let s6 : AllSame v v6 = same_more v v5 v6 s5 (same_second v5 (subtracted 5 a)) in
      let l6 : List WordInstr = write_code k in
      let l5 : List WordInstr = Compute SECOND operation.Subtract SECOND from ∷ l6 in
      let l4 : List WordInstr = Constant SECOND 5 ∷ l5 in
      let l3 : List WordInstr = Compute FIRST operation.Add SECOND FIRST ∷ l4 in
      let l2 : List WordInstr = Datum SECOND FALSE_AT ∷ l3 in
      let l1 : List WordInstr = Compute FIRST operation.ShiftLeft from FIRST ∷ l2 in
      let shift : shifted_left a 3 % 2 ^ 32 ≡ 8 * a = omega (arith, less) in
      let place : added (data_at + 0 + 8) (8 * a) % 2 ^ 32 ≡ data_at + (8 + 8 * a) = omega (arith, less) in
      let count : subtracted 5 a % 2 ^ 32 ≡ length text = omega (arith, less, long) in
      let r1 = run_constant x.live (all_procs x) (within x.table x.blocks g) m l1 v g.words FIRST 3 in
      let r2 = run_compute x.live (all_procs x) (within x.table x.blocks g) m l2 v1 g.words FIRST operation.ShiftLeft from FIRST
      (s1.others from high ∙ e) refl in
      let r3 = run_datum x.live (all_procs x) (within x.table x.blocks g) m l3 v2 g.words SECOND FALSE_AT in
      let r4 = run_compute x.live (all_procs x) (within x.table x.blocks g) m l4 v3 g.words FIRST operation.Add SECOND FIRST
      (got (data_at + 0 + 8) (omega arith))
      (ap Some shift) in
      let r5 = run_constant x.live (all_procs x) (within x.table x.blocks g) m l5 v4 g.words SECOND 5 in
      let r6 = run_compute x.live (all_procs x) (within x.table x.blocks g) m l6 v5 g.words SECOND operation.Subtract SECOND from refl
      (s5.others from high ∙ e) in
      let w = write_one x least g line rest y m k v6 (data_at + (8 + 8 * a)) (length text) text (ap Some place) (ap Some count)
      (text_still x least g line rest y (8 + 8 * a) text t) in
      record {
        vars = v6;
        same = s6;
        memory = m;
        told = told_none x least (sites_of g) m y.memory;
        words = g.words;
        awaits = g.awaits;
        count = 7;
        few = omega (arith, long, less);
        steps = on (lower x) (then_runs x.live (all_procs x)
            (then_runs x.live (all_procs x) (then_runs x.live (all_procs x) r1 r2)
            (then_runs x.live (all_procs x) r3 r4)) (then_runs x.live (all_procs x) r5 r6)) w;
      }

  -- ---- a member of an enum

  pub name_tells : (ends names a from : ℕ) (text : List ℕ) (k : List WordInstr) → NameAt x ends names a text → OWN_FROM ≤ from → g.call.vars from
      ≡ Some a
      → Tells x least g line rest y 1 (name_code ends names from k) k text
  name_tells ends names a from text k t high e =
      let m : Memory = g.memory in
      let v : Vars = g.call.vars in
      let n : ℕ = length text in
      let near = t.small in
      let far = t.here.small in
      let p : ℕ = data_at + (ends + 4 * a) in
      let v1 : Vars = put v FIRST 2 in
      let v2 : Vars = put v1 FIRST (shifted_left a 2) in
      let v3 : Vars = put v2 SECOND (data_at + 0 + ends) in
      let v4 : Vars = put v3 SECOND (added (data_at + 0 + ends) (4 * a)) in
      let v5 : Vars = put v4 FIRST t.from in
      let v6 : Vars = put v5 THIRD 4 in
      let v7 : Vars = put v6 SECOND (added p 4) in
      let v8 : Vars = put v7 SECOND (t.from + n) in
      let v9 : Vars = put v8 SECOND (subtracted (t.from + n) t.from) in
      let v10 : Vars = put v9 THIRD (data_at + 0 + names) in
      let v11 : Vars = put v10 FIRST (added (data_at + 0 + names) t.from) in
      let s1 : AllSame v v1 = same_first v 2 in
      let s2 : AllSame v v2 = same_more v v1 v2 s1 (same_first v1 (shifted_left a 2)) in
      let s3 : AllSame v v3 = same_more v v2 v3 s2 (same_second v2 (data_at + 0 + ends)) in
      let s4 : AllSame v v4 = same_more v v3 v4 s3 (same_second v3 (added (data_at + 0 + ends) (4 * a))) in
      let s5 : AllSame v v5 = same_more v v4 v5 s4 (same_first v4 t.from) in
      let s6 : AllSame v v6 = same_more v v5 v6 s5 (same_third v5 4) in
      let s7 : AllSame v v7 = same_more v v6 v7 s6 (same_second v6 (added p 4)) in
      let s8 : AllSame v v8 = same_more v v7 v8 s7 (same_second v7 (t.from + n)) in
      let s9 : AllSame v v9 = same_more v v8 v9 s8 (same_second v8 (subtracted (t.from + n) t.from)) in
      let s10 : AllSame v v10 = same_more v v9 v10 s9 (same_third v9 (data_at + 0 + names)) in
      let s11 : AllSame v v11 = same_more v v10 v11 s10 (same_first v10 (added (data_at + 0 + names) t.from)) in
      let l11 : List WordInstr = write_code k in
      let l10 : List WordInstr = Compute FIRST operation.Add THIRD FIRST ∷ l11 in
      let l9 : List WordInstr = Datum THIRD names ∷ l10 in
      let l8 : List WordInstr = Compute SECOND operation.Subtract SECOND FIRST ∷ l9 in
      let l7 : List WordInstr = Load SECOND SECOND Word ∷ l8 in
      let l6 : List WordInstr = Compute SECOND operation.Add SECOND THIRD ∷ l7 in
      let l5 : List WordInstr = Constant THIRD 4 ∷ l6 in
      let l4 : List WordInstr = Load FIRST SECOND Word ∷ l5 in
      let l3 : List WordInstr = Compute SECOND operation.Add SECOND FIRST ∷ l4 in
      let l2 : List WordInstr = Datum SECOND ends ∷ l3 in
      let l1 : List WordInstr = Compute FIRST operation.ShiftLeft from FIRST ∷ l2 in
      let shift : shifted_left a 2 % 2 ^ 32 ≡ 4 * a = omega (arith, near) in
      let place : added (data_at + 0 + ends) (4 * a) % 2 ^ 32 ≡ p = omega (arith, near) in
      let next : added p 4 % 2 ^ 32 ≡ p + 4 = omega (arith, near) in
      let count : subtracted (t.from + n) t.from % 2 ^ 32 ≡ n = omega (arith, far) in
      let first : added (data_at + 0 + names) t.from % 2 ^ 32 ≡ data_at + (names + t.from) = omega (arith, far) in
      let r1 = run_constant x.live (all_procs x) (within x.table x.blocks g) m l1 v g.words FIRST 2 in
      let r2 = run_compute x.live (all_procs x) (within x.table x.blocks g) m l2 v1 g.words FIRST operation.ShiftLeft from FIRST
      (s1.others from high ∙ e) refl in
      let r3 = run_datum x.live (all_procs x) (within x.table x.blocks g) m l3 v2 g.words SECOND ends in
      let r4 = run_compute x.live (all_procs x) (within x.table x.blocks g) m l4 v3 g.words SECOND operation.Add SECOND FIRST
      (got (data_at + 0 + ends) (omega (arith, near))) (ap Some shift) in
      let r5 = run_load x.live (all_procs x) (within x.table x.blocks g) m l5 v4 g.words FIRST SECOND Word (ap Some place)
      (word_still p t.begins_text ∙ t.begins) in
      let r6 = run_constant x.live (all_procs x) (within x.table x.blocks g) m l6 v5 g.words THIRD 4 in
      let r7 = run_compute x.live (all_procs x) (within x.table x.blocks g) m l7 v6 g.words SECOND operation.Add SECOND THIRD (ap Some place) refl in
      let r8 = run_load x.live (all_procs x) (within x.table x.blocks g) m l8 v7 g.words SECOND SECOND Word (ap Some next)
      (word_still (p + 4) t.closes_text ∙ t.closes) in
      let r9 = run_compute x.live (all_procs x) (within x.table x.blocks g) m l9 v8 g.words SECOND operation.Subtract SECOND FIRST
      (got (t.from + n) (omega (arith, far))) (got t.from (omega (arith, far))) in
      let r10 = run_datum x.live (all_procs x) (within x.table x.blocks g) m l10 v9 g.words THIRD names in
      let r11 = run_compute x.live (all_procs x) (within x.table x.blocks g) m l11 v10 g.words FIRST operation.Add THIRD FIRST
      (got (data_at + 0 + names) (omega (arith, far))) (got t.from (omega (arith, far))) in
      let w = write_one x least g line rest y m k v11 (data_at + (names + t.from)) n text (ap Some first) (ap Some count)
      (text_still x least g line rest y (names + t.from) text t.here) in
      let front = then_runs x.live (all_procs x) (then_runs x.live (all_procs x) (then_runs x.live (all_procs x) r1 r2)
      (then_runs x.live (all_procs x) r3 r4)) (then_runs x.live (all_procs x) (then_runs x.live (all_procs x) r5 r6)
      (then_runs x.live (all_procs x) r7 r8)) in
      let back = then_runs x.live (all_procs x) r9 (then_runs x.live (all_procs x) r10 r11) in
      record {
        vars = v11;
        same = s11;
        memory = m;
        told = told_none x least (sites_of g) m y.memory;
        words = g.words;
        awaits = g.awaits;
        count = 12;
        few = (let some = t.some in omega (arith, some));
        steps = on (lower x) (then_runs x.live (all_procs x) front back) w;
      }
