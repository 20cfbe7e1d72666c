-- What the code does that copies an argument in place, word by word.
use Rattle.std.proofs.Common.{◌≡◌, ℕ, zero, suc, ◌+◌, ◌*◌, ◌^◌, ◌<◌, List, ◌∷◌, Some, true, false, refl, ap, subst, ◌%◌}
use Rattle.std.proofs.Common.{arith}
use Rattle.std.specs.Prelude.{◌==◌, not}
use Rattle.std.proofs.lemmas.Bool.{eq-eqb, ne_eqb}
use Rattle.rv32_isa.specs.declared.micro_op.Size.TheVariants.{Word as whole}
use Rattle.rv32_isa.specs.Machine.{Lives}
use Rattle.rv32_isa.specs.Values.{added}
use Rattle.word_code.specs.declared.word.WordOperation.TheVariants as operation
use Rattle.word_code.specs.declared.word.Test.TheVariants as test
use Rattle.word_code.specs.declared.word.WordInstr.{WordInstr}
use Rattle.word_code.specs.declared.word.WordInstr.TheVariants.{Label, Load, Store, Compute, Branch, Constant}
use Rattle.word_code.specs.declared.word.WordProc.{WordProc}
use Rattle.word_code.specs.Memory.{Memory, with_number}
use Rattle.word_code.specs.Words.{Vars, put, from_label}
use Rattle.word_code.specs.RoutineTable.{Cell, Area}
use Rattle.word_code.proofs.ForCallers.{MemoryLaw, Sized, put_sized, put_area, with_copied, Runs, then_runs, Within, at, run_label, run_load, low_word}
use Rattle.word_code.proofs.ForCallers.{low_small, got_low}
use Rattle.word_code.proofs.ForCallers.{run_store, run_compute, run_constant, run_past, run_off, got, got_sum}
use Rattle.heap_memory.specs.declared.numbers.TheConstants.{HEAP_DATA}
use Rattle.word_lowering.specs.declared.homes.Home.{Home}
use Rattle.word_lowering.specs.declared.homes.TheConstants.{FIRST, SECOND, THIRD, FOURTH, FIFTH}
use Rattle.word_lowering.specs.Spots.{address, copied_here}
use Rattle.word_lowering.proofs.OrdinalRuns.{AllSame}
use Rattle.word_lowering.proofs.OpRuns.{same_put}
use Rattle.word_lowering.proofs.Moves.{same_more, address_runs}
use Rattle.word_lowering.proofs.Scenes.{Points}

-- the lines from the label on, before others
abbrev pub hand_loop : (label : ℕ) → List WordInstr → List WordInstr
hand_loop label k =
    Label label
    ∷ Load FIFTH SECOND whole ∷ Store FIRST FIFTH whole
    ∷ Compute FIRST operation.Add FIRST FOURTH ∷ Compute SECOND operation.Add SECOND FOURTH
    ∷ Branch test.Unequal SECOND THIRD label
    ∷ k

module _ (law : MemoryLaw) (live : Lives) (procs : List WordProc) (c : Within) (g : Vars) (label : ℕ) (k : List WordInstr)
    (stands : from_label label c.proc.lines ≡ Some (hand_loop label k)) where
  -- a word is copied, and the addresses are those of the next ones
  record Turn (m : Memory) (to from end : ℕ) (v : Vars) : Type 0 where
    vars : Vars
    onto : vars FIRST ≡ Some (to + 4)
    there : vars SECOND ≡ Some (from + 4)
    last : vars THIRD ≡ Some end
    four : vars FOURTH ≡ Some 4
    same : AllSame v vars
    runs : Runs live procs 5 (at c m (hand_loop label k) v g)
        (at c (with_number m to whole (low_word m from)) (Branch test.Unequal SECOND THIRD label ∷ k) vars g)

  turn : (m : Memory) (to from end : ℕ) (v : Vars) → v FIRST ≡ Some to → v SECOND ≡ Some from → v THIRD ≡ Some end → v FOURTH ≡ Some 4
      → to + 4 < 2 ^ 32 → from + 4 < 2 ^ 32 → Cell m to → Cell m from → Turn m to from end v
  turn m to from end v e1 e2 e3 e4 small_to small_from there here =
      let w : ℕ = here.word in
      let same_word : w % 2 ^ 32 ≡ low_word m from = got_low m from here in
      let m1 : Memory = with_number m to whole (w % 2 ^ 32) in
      let v1 : Vars = put v FIFTH w in
      let v2 : Vars = put v1 FIRST (added to 4) in
      let v3 : Vars = put v2 SECOND (added from 4) in
      let l4 : List WordInstr = Branch test.Unequal SECOND THIRD label ∷ k in
      let l3 : List WordInstr = Compute SECOND operation.Add SECOND FOURTH ∷ l4 in
      let l2 : List WordInstr = Compute FIRST operation.Add FIRST FOURTH ∷ l3 in
      let l1 : List WordInstr = Store FIRST FIFTH whole ∷ l2 in
      let l0 : List WordInstr = Load FIFTH SECOND whole ∷ l1 in
      let r0 : Runs live procs 1 (at c m (Label label ∷ l0) v g) (at c m l0 v g) = run_label live procs c m l0 v g label in
      let r1 : Runs live procs 1 (at c m l0 v g) (at c m l1 v1 g) = run_load live procs c m l1 v g FIFTH SECOND whole e2 here.reads in
      let r2 : Runs live procs 1 (at c m l1 v1 g) (at c m1 l2 v1 g) = run_store live procs c m l2 v1 g FIRST FIFTH whole e1 refl there.may in
      let r3 : Runs live procs 1 (at c m1 l2 v1 g) (at c m1 l3 v2 g) = run_compute live procs c m1 l3 v1 g FIRST operation.Add FIRST FOURTH e1 e4 in
      let r4 : Runs live procs 1 (at c m1 l3 v2 g) (at c m1 l4 v3 g) = run_compute live procs c m1 l4 v2 g SECOND operation.Add SECOND FOURTH e2 e4 in
      record {
        vars = v3;
        onto = got_sum to 4 small_to;
        there = got_sum from 4 small_from;
        last = e3;
        four = e4;
        same = same_more v v1 v3 (same_put v FIFTH w (omega arith) (omega arith))
            (same_more v1 v2 v3 (same_put v1 FIRST (added to 4) (omega arith) (omega arith)) (same_put v2 SECOND (added from 4) (omega arith) (omega arith)));
        runs = subst (λ n. Runs live procs 5 (at c m (hand_loop label k) v g)
            (at c (with_number m to whole n) (Branch test.Unequal SECOND THIRD label ∷ k) v3 g)) same_word
            (then_runs live procs (then_runs live procs r0 r1) (then_runs live procs r2 (then_runs live procs r3 r4)));
      }

  -- so many words are copied
  pub record Handed (words : ℕ) (m : Memory) (to from : ℕ) (v : Vars) : Type 0 where
    pub vars : Vars
    pub same : AllSame v vars
    pub runs : Runs live procs (6 * words) (at c m (hand_loop label k) v g) (at c (with_copied words m to from) k vars g)

  pub hands : (n : ℕ) (m : Memory) (to from end : ℕ) (v : Vars) → v FIRST ≡ Some to → v SECOND ≡ Some from → v THIRD ≡ Some end → v FOURTH
      ≡ Some 4
      → end ≡ from + 4 * suc n → to + 4 * suc n < 2 ^ 32 → end < 2 ^ 32 → Sized m → Area m to (suc n) → Area m from (suc n) → Handed
      (suc n) m to from v
  hands zero m to from end v e1 e2 e3 e4 far small_to small_end sized there here =
      let t = turn m to from end v e1 e2 e3 e4 (omega arith) (omega (arith, far, small_end)) there.0 here.0 in
      let over : not (from + 4 == end) ≡ false = ap not (eq-eqb (from + 4) end (omega (arith, far))) in
      record {
        vars = t.vars;
        same = t.same;
        runs = then_runs live procs t.runs
            (run_past live procs c (with_number m to whole (low_word m from)) k t.vars g test.Unequal SECOND THIRD label t.there t.last over);
      }
  hands (suc n) m to from end v e1 e2 e3 e4 far small_to small_end sized there here =
      let t = turn m to from end v e1 e2 e3 e4 (omega arith) (omega (arith, far, small_end)) there.0 here.0 in
      let w : ℕ = low_word m from in
      let small : w < 2 ^ 32 = low_small m from in
      let m1 : Memory = with_number m to whole w in
      let again : not (from + 4 == end) ≡ true = ap not (ne_eqb (from + 4) end (λ e. omega (arith, far, e))) in
      let rest = hands n m1 (to + 4) (from + 4) end t.vars t.onto t.there t.last t.four (omega (arith, far)) (omega (arith, small_to)) small_end
      (put_sized law m to w sized there.0.may) (put_area law m to w sized there.0 small (to + 4) (suc n) there.1)
      (put_area law m to w sized there.0 small (from + 4) (suc n) here.1) in
      record {
        vars = rest.vars;
        same = same_more v t.vars rest.vars t.same rest.same;
        runs = subst (λ j. Runs live procs j (at c m (hand_loop label k) v g) (at c (with_copied (suc (suc n)) m to from) k rest.vars g)) (omega arith)
            (then_runs live procs (then_runs live procs t.runs
            (run_off live procs c m1 k t.vars g test.Unequal SECOND THIRD label (hand_loop label k) t.there t.last again stands)) rest.runs);
      }

  -- from where the address in FIRST is
  pub record HandedHere (m : Memory) (words : ℕ) (to from : ℕ) (bytes : ℕ) (home : Home) (v : Vars) : Type 0 where
    pub vars : Vars
    pub same : AllSame v vars
    pub runs : Runs live procs (4 + 6 * words) (at c m (copied_here label bytes home k) v g) (at c (with_copied words m to from) k vars g)

  pub handed_here : (from_first : c.proc.data_from ≡ HEAP_DATA) (n : ℕ) (m : Memory) (to from : ℕ) (home : Home) (v : Vars) → v FIRST ≡ Some to
      → Points c.base v home from
      → to + 4 * suc n < 2 ^ 32 → from + 4 * suc n < 2 ^ 32 → Sized m → Area m to (suc n) → Area m from (suc n)
      → HandedHere m (suc n) to from (4 * suc n) home v
  handed_here from_first n m to from home v e points small_to small_from sized there here =
      let bytes : ℕ = 4 * suc n in
      let v1 : Vars = put v SECOND from in
      let v2 : Vars = put v1 THIRD bytes in
      let v3 : Vars = put v2 THIRD (added from bytes) in
      let v4 : Vars = put v3 FOURTH 4 in
      let l3 : List WordInstr = Constant FOURTH 4 ∷ hand_loop label k in
      let l2 : List WordInstr = Compute THIRD operation.Add SECOND THIRD ∷ l3 in
      let l1 : List WordInstr = Constant THIRD bytes ∷ l2 in
      let second : v1 SECOND ≡ Some from = got from (omega (arith, small_from)) in
      let r0 : Runs live procs 1 (at c m (address SECOND home ∷ l1) v g)
      (at c m l1 v1 g) = address_runs law live procs c from_first g m l1 v SECOND home from points in
      let r1 : Runs live procs 1 (at c m l1 v1 g) (at c m l2 v2 g) = run_constant live procs c m l2 v1 g THIRD bytes in
      let r2 : Runs live procs 1 (at c m l2 v2 g) (at c m l3 v3 g) = run_compute live procs c m l3 v2 g THIRD operation.Add SECOND THIRD second
      (got bytes (omega (arith, small_from))) in
      let r3 : Runs live procs 1 (at c m l3 v3 g) (at c m (hand_loop label k) v4 g) = run_constant live procs c m (hand_loop label k) v3 g FOURTH 4 in
      let h = hands n m to from (from + bytes) v4 e second (got_sum from bytes small_from) refl refl small_to small_from sized there here in
      record {
        vars = h.vars;
        same = same_more v v1 h.vars (same_put v SECOND from (omega arith) (omega arith))
            (same_more v1 v2 h.vars (same_put v1 THIRD bytes (omega arith) (omega arith))
            (same_more v2 v3 h.vars (same_put v2 THIRD (added from bytes) (omega arith) (omega arith))
            (same_more v3 v4 h.vars (same_put v3 FOURTH 4 (omega arith) (omega arith)) h.same)));
        runs = then_runs live procs (then_runs live procs (then_runs live procs r0 r1) (then_runs live procs r2 r3)) h.runs;
      }
