-- What the code does by which two characters at addresses trade places.
use Rattle.std.proofs.Common.{◌≡◌, ℕ, ◌%◌, ◌^◌, ◌<◌, List, ◌∷◌, true, Ok, ap, ◌∙◌, arith}
use Rattle.std.specs.Prelude.{◌==◌, ◌&&◌}
use Rattle.rv32_isa.specs.declared.micro_op.Size.TheVariants.{Byte}
use Rattle.rv32_isa.specs.Machine.{Lives}
use Rattle.word_code.specs.declared.word.WordInstr.{WordInstr}
use Rattle.word_code.specs.declared.word.WordInstr.TheVariants.{Load, Store}
use Rattle.word_code.specs.declared.word.WordProc.{WordProc}
use Rattle.word_code.specs.Memory.{Memory, as_state, may_put, number_at, with_number}
use Rattle.word_code.specs.Words.{Vars, put}
use Rattle.word_code.proofs.ForCallers.{MemoryLaw, Runs, Sized, Within, at, got, run_load, run_store, store_rewritten, then_runs}
use Rattle.heap_memory.specs.declared.numbers.TheConstants.{HEAP_DATA}
use Rattle.word_lowering.specs.declared.homes.TheConstants.{FIRST, SECOND, THIRD, FOURTH}
use Rattle.word_lowering.specs.declared.homes.Home.{Home}
use Rattle.word_lowering.specs.LineCode.{letter_swap}
use Rattle.word_lowering.specs.Spots.{address}
use Rattle.word_lowering.proofs.Moves.{IsHigh, NumberPut, address_runs, points_same, same_first, same_fourth, same_more, same_second, same_third}
use Rattle.word_lowering.proofs.Scenes.{Points}

module _ (law : MemoryLaw) (live : Lives) (procs : List WordProc) (c : Within) (from_first : c.proc.data_from ≡ HEAP_DATA) (g : Vars) (m : Memory)
    (sized : Sized m) (k : List WordInstr) (v : Vars) where
  -- the same bytes may be put then
  still_may : (a w b : ℕ) → may_put m a Byte ≡ true → may_put m b Byte ≡ true → may_put (with_number m a Byte w) b Byte ≡ true
  still_may a w b may may_other =
      ap (λ o. (b % 1 == 0) && o) (law.stores (as_state m) (as_state (with_number m a Byte w)) b 1 (store_rewritten law m a Byte w sized may).sizes) ∙ may_other

  module _ (home : Home) (a : ℕ) (points : Points c.base v home a) (may : may_put m a Byte ≡ true) (near : a < 2 ^ 32) where
    -- two bytes trade places
    pub letters_swapped : (right : Home) → IsHigh right → (b : ℕ) → Points c.base v right b → may_put m b Byte ≡ true → b < 2 ^ 32
        → (p q : ℕ) → p < 2 ^ 32 → q < 2 ^ 32 → number_at m a Byte ≡ Ok p → number_at m b Byte ≡ Ok q
        → NumberPut law live procs c from_first g m (letter_swap home right k) v (with_number (with_number m b Byte p) a Byte q) 6 k
    letters_swapped right high b points_b may_b near_b p q small_p small_q reads_p reads_q =
        let v1 : Vars = put v FIRST a in
        let v2 : Vars = put v1 SECOND b in
        let v3 : Vars = put v2 THIRD p in
        let v4 : Vars = put v3 FOURTH q in
        let m1 : Memory = with_number m b Byte p in
        let m2 : Memory = with_number m1 a Byte q in
        let k5 : List WordInstr = Store FIRST FOURTH Byte ∷ k in
        let k4 : List WordInstr = Store SECOND THIRD Byte ∷ k5 in
        let k3 : List WordInstr = Load FOURTH SECOND Byte ∷ k4 in
        let k2 : List WordInstr = Load THIRD FIRST Byte ∷ k3 in
        let r1 : Runs live procs 1 (at c m (address FIRST home ∷ address SECOND right ∷ k2) v g) (at c m (address SECOND right ∷ k2) v1 g)
        = address_runs law live procs c from_first g m (address SECOND right ∷ k2) v FIRST home a points in
        let r2 : Runs live procs 1 (at c m (address SECOND right ∷ k2) v1 g) (at c m k2 v2 g)
        = address_runs law live procs c from_first g m k2 v1 SECOND right b
        (points_same law live procs c from_first g v v1 right b high (same_first v a) points_b) in
        let r3 : Runs live procs 1 (at c m k2 v2 g) (at c m k3 v3 g) = run_load live procs c m k3 v2 g THIRD FIRST Byte (got a near) reads_p in
        let r4 : Runs live procs 1 (at c m k3 v3 g) (at c m k4 v4 g) = run_load live procs c m k4 v3 g FOURTH SECOND Byte (got b near_b) reads_q in
        let r5 : Runs live procs 1 (at c m k4 v4 g) (at c m1 k5 v4 g)
        = run_store live procs c m k5 v4 g SECOND THIRD Byte (got b near_b) (got p small_p) may_b in
        let r6 : Runs live procs 1 (at c m1 k5 v4 g) (at c m2 k v4 g)
        = run_store live procs c m1 k v4 g FIRST FOURTH Byte (got a near) (got q small_q) (still_may b p a may_b may) in
        record {
          vars = v4;
          same = same_more v v1 v4 (same_first v a)
              (same_more v1 v2 v4 (same_second v1 b) (same_more v2 v3 v4 (same_third v2 p) (same_fourth v3 q)));
          steps = 6;
          some = omega arith;
          few = omega arith;
          runs = then_runs live procs (then_runs live procs r1 r2) (then_runs live procs (then_runs live procs r3 r4) (then_runs live procs r5 r6));
        }
