-- What it does to call the routine by which words at two addresses trade places.
use Rattle.std.proofs.Common.{◌≡◌, ℕ, suc, ◌+◌, ◌*◌, ◌^◌, ◌<◌, ◌≤◌, List, ◌∷◌, false, refl, arith}
use Rattle.rv32_isa.specs.Machine.{Lives}
use Rattle.word_code.specs.declared.routine.TheConstants.{SWAP}
use Rattle.word_code.specs.declared.word.WordInstr.{WordInstr}
use Rattle.word_code.specs.declared.word.WordInstr.TheVariants.{Constant, Argument, Call}
use Rattle.word_code.specs.declared.word.WordProc.{WordProc}
use Rattle.word_code.specs.Memory.{Memory}
use Rattle.word_code.specs.Words.{Vars, no_words, put}
use Rattle.word_code.specs.Routines.{HasData}
use Rattle.word_code.specs.RoutineTable.{Area, Separate, Moving}
use Rattle.word_code.proofs.ForCallers.{MemoryLaw, Sized, Runs, then_runs, Within, at, run_constant, run_argument, got}
use Rattle.heap_memory.specs.declared.numbers.TheConstants.{HEAP_DATA}
use Rattle.word_lowering.specs.declared.homes.TheConstants.{FIRST, THIRD}
use Rattle.word_lowering.specs.declared.homes.Home.{Home}
use Rattle.word_lowering.specs.declared.homes.Home.TheVariants.{Variable, Placed, Static}
use Rattle.word_lowering.specs.LineCode.{word_argument, swap_code}
use Rattle.word_lowering.proofs.Moves.{IsHigh, address_runs, all_same, points_same, same_first, same_more, same_third}
use Rattle.word_lowering.proofs.OrdinalRuns.{AllSame}
use Rattle.word_lowering.proofs.RoutineCalls.{Reaches, awaiting}
use Rattle.word_lowering.proofs.RoutineMemory.{Trade, swapped_trade}
use Rattle.word_lowering.proofs.Scenes.{Points}

module _ (law : MemoryLaw) (live : Lives) (procs : List WordProc) (c : Within) (from_first : c.proc.data_from ≡ HEAP_DATA) (m : Memory) where
  -- ---- the address of a home becomes an argument

  pub record WordGiven (k : List WordInstr) (v g : Vars) (index : ℕ) (home : Home) (a : ℕ) : Type 0 where
    pub vars : Vars
    pub same : AllSame v vars
    pub steps : ℕ
    pub few : steps ≤ 2
    pub runs : Runs live procs steps (at c m (word_argument index home k) v g) (at c m k vars (put g index a))

  module _ (k : List WordInstr) (v g : Vars) (index a : ℕ) (small : a < 2 ^ 32) where
    -- by FIRST
    by_first : (home : Home) → Points c.base v home a
        → Runs live procs 1 (at c m (word_argument index home k) v g) (at c m (Argument index FIRST ∷ k) (put v FIRST a) g)
        → WordGiven k v g index home a
    by_first home p front = record {
      vars = put v FIRST a;
      same = same_first v a;
      steps = 2;
      few = omega arith;
      runs = then_runs live procs front (run_argument live procs c m k (put v FIRST a) g index FIRST (got a small));
    }

    pub word_given : (home : Home) → Points c.base v home a → WordGiven k v g index home a
    word_given (Variable u) p =
        record { vars = v; same = all_same v; steps = 1; few = omega arith; runs = run_argument live procs c m k v g index u p }
    word_given (Placed n) p = by_first (Placed n) p (address_runs law live procs c from_first g m (Argument index FIRST ∷ k) v FIRST (Placed n) a p)
    word_given (Static n) p = by_first (Static n) p (address_runs law live procs c from_first g m (Argument index FIRST ∷ k) v FIRST (Static n) a p)

  -- ---- words trade places

  pub record Swapped (k : List WordInstr) (n : ℕ) (left right : Home) (a b : ℕ) (v g : Vars) : Type 0 where
    pub memory : Memory
    pub vars : Vars
    pub same : AllSame v vars
    pub is : Trade m memory a b (4 * suc n)
    pub steps : ℕ
    pub some : 1 ≤ steps
    pub few : steps ≤ 11 + 8 * suc n
    pub runs : Runs live procs steps (at c m (swap_code false left right (4 * suc n) k) v g) (at (awaiting c FIRST) memory k vars no_words)

  pub swap_called : (own : ℕ) (statics : List ℕ) → Reaches live procs own statics → (k : List WordInstr) (n : ℕ) (left right : Home) (a b : ℕ) (v g : Vars)
      → Points c.base v left a → IsHigh right → Points c.base v right b → a + 4 * suc n < 2 ^ 32 → b + 4 * suc n < 2 ^ 32 → Sized m
      → HasData own statics m → Area m a (suc n) → Area m b (suc n) → Separate a b (4 * suc n) → Swapped k n left right a b v g
  swap_called own statics reaches k n left right a b v g at_left high at_right small_a small_b sized data_there there here apart =
      let bytes : ℕ = 4 * suc n in
      let g1 : Vars = put g 0 a in
      let g2 : Vars = put g1 1 b in
      let g3 : Vars = put g2 2 bytes in
      let small : bytes < 2 ^ 32 = omega (arith, small_a) in
      let l4 : List WordInstr = Call FIRST SWAP ∷ k in
      let l3 : List WordInstr = Argument 2 THIRD ∷ l4 in
      let l2 : List WordInstr = Constant THIRD bytes ∷ l3 in
      let l1 : List WordInstr = word_argument 1 right l2 in
      let r1 = word_given l1 v g 0 a (omega (arith, small_a)) left at_left in
      let v1 : Vars = r1.vars in
      let r2 = word_given l2 v1 g1 1 b (omega (arith, small_b)) right (points_same law live procs c from_first g v v1 right b high r1.same at_right) in
      let v2 : Vars = r2.vars in
      let v3 : Vars = put v2 THIRD bytes in
      let r3 = run_constant live procs c m l3 v2 g2 THIRD bytes in
      let r4 = run_argument live procs c m l4 v3 g2 2 THIRD (got bytes small) in
      let u : Moving = record { to = a; from = b; behind = n } in
      let called = reaches.swaps u (at c m l4 v3 g3) FIRST k
      (record { next = refl; given = (got a (omega (arith, small_a)), (got b (omega (arith, small_b)), (got bytes small, tt))) }) sized data_there
      (there, here, apart) in
      record {
        memory = called.memory;
        vars = put v3 FIRST called.word;
        same = same_more v v1 (put v3 FIRST called.word) r1.same
            (same_more v1 v2 (put v3 FIRST called.word) r2.same (same_more v2 v3 (put v3 FIRST called.word) (same_third v2 bytes)
            (same_first v3 called.word)));
        is = swapped_trade law u m called.memory sized there here called.leaves;
        steps = (r1.steps + r2.steps) + ((1 + 1) + called.lines);
        some = omega arith;
        few = (let p = r1.few in let q = r2.few in let f = called.few in omega (arith, p, q, f));
        runs = then_runs live procs (then_runs live procs r1.runs r2.runs)
            (then_runs live procs (then_runs live procs r3 r4) (record { by = called.steps }));
      }
