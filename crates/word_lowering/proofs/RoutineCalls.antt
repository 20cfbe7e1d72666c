-- What it does to call the routines that copy and clear.
use Rattle.std.proofs.Common.{◌≡◌, ℕ, suc, ◌+◌, ◌*◌, ◌^◌, ◌<◌, ◌≤◌, List, ◌∷◌, Some, refl, arith}
use Rattle.rv32_isa.specs.Machine.{Lives}
use Rattle.word_code.specs.declared.routine.TheConstants.{COPY, CLEAR}
use Rattle.word_code.specs.declared.word.WordInstr.{WordInstr}
use Rattle.word_code.specs.declared.word.WordInstr.TheVariants.{Constant, Argument, Call}
use Rattle.word_code.specs.declared.word.WordProc.{WordProc}
use Rattle.word_code.specs.Memory.{Memory}
use Rattle.word_code.specs.Words.{Vars, no_words, put}
use Rattle.word_code.specs.Routines.{HasData, IsKept}
use Rattle.word_code.specs.RoutineTable.{Area, Separate, Moving, Clearing, copies, clears, swaps}
use Rattle.word_code.proofs.ForCallers.{MemoryLaw, Sized, CopiedTo, Runs, then_runs, Within, at, run_constant, run_argument, got}
use Rattle.word_lowering.specs.declared.homes.TheConstants.{FIRST, SECOND, THIRD}
use Rattle.word_lowering.proofs.RoutineMemory.{copied_changed, ClearedAt, cleared_changed}

-- a call that has made another one, whose result goes to a variable
abbrev pub awaiting : Within → (to : ℕ) → Within
awaiting c to = record c { awaits = to }

-- routines are called among these procedures, and their data stands at an address
pub record Reaches (live : Lives) (procs : List WordProc) (own : ℕ) (statics : List ℕ) : Type 0 where
  pub copies : IsKept live procs own statics copies
  pub clears : IsKept live procs own statics clears
  pub swaps : IsKept live procs own statics swaps

module _ (law : MemoryLaw) (live : Lives) (procs : List WordProc) (own : ℕ) (statics : List ℕ) (reaches : Reaches live procs own statics) (c : Within)
    (k : List WordInstr) where
  -- ---- words are copied

  pub record Copied (n : ℕ) (m : Memory) (a b : ℕ) (v g : Vars) : Type 0 where
    pub memory : Memory
    pub word : ℕ
    pub is : CopiedTo m memory a b (4 * suc n)
    pub steps : ℕ
    pub few : steps ≤ 5 + 6 * suc n
    pub runs : Runs live procs (4 + steps)
        (at c m (Constant THIRD (4 * suc n) ∷ Argument 0 FIRST ∷ Argument 1 SECOND ∷ Argument 2 THIRD ∷ Call FIRST COPY ∷ k) v g)
        (at (awaiting c FIRST) memory k (put (put v THIRD (4 * suc n)) FIRST word) no_words)

  pub copy_called : (n : ℕ) (m : Memory) (a b : ℕ) (v g : Vars) → v FIRST ≡ Some a → v SECOND ≡ Some b → a + 4 * suc n < 2 ^ 32
      → b + 4 * suc n < 2 ^ 32 → Sized m → HasData own statics m → Area m a (suc n) → Area m b (suc n) → Separate a b (4 * suc n)
      → Copied n m a b v g
  copy_called n m a b v g ea eb small_a small_b sized data_there there here apart =
      let bytes : ℕ = 4 * suc n in
      let v1 : Vars = put v THIRD bytes in
      let g1 : Vars = put g 0 a in
      let g2 : Vars = put g1 1 b in
      let g3 : Vars = put g2 2 bytes in
      let small : bytes < 2 ^ 32 = omega (arith, small_a) in
      let l4 : List WordInstr = Call FIRST COPY ∷ k in
      let l3 : List WordInstr = Argument 2 THIRD ∷ l4 in
      let l2 : List WordInstr = Argument 1 SECOND ∷ l3 in
      let l1 : List WordInstr = Argument 0 FIRST ∷ l2 in
      let r1 = run_constant live procs c m l1 v g THIRD bytes in
      let r2 = run_argument live procs c m l2 v1 g 0 FIRST ea in
      let r3 = run_argument live procs c m l3 v1 g1 1 SECOND eb in
      let r4 = run_argument live procs c m l4 v1 g2 2 THIRD (got bytes small) in
      let u : Moving = record { to = a; from = b; behind = n } in
      let called = reaches.copies u (at c m l4 v1 g3) FIRST k
      (record { next = refl; given = (got a (omega (arith, small_a)), (got b (omega (arith, small_b)), (got bytes small, tt))) }) sized data_there
      (there, here, apart) in
      record {
        memory = called.memory;
        word = called.word;
        is = copied_changed law u m called.memory sized there here called.leaves;
        steps = called.lines;
        few = called.few;
        runs = then_runs live procs (then_runs live procs (then_runs live procs r1 r2) (then_runs live procs r3 r4)) (record { by = called.steps });
      }

  -- ---- words are cleared

  pub record Cleared (n : ℕ) (m : Memory) (a : ℕ) (v g : Vars) : Type 0 where
    pub memory : Memory
    pub word : ℕ
    pub is : ClearedAt m memory a (4 * suc n)
    pub steps : ℕ
    pub few : steps ≤ 5 + 4 * suc n
    pub runs : Runs live procs (3 + steps) (at c m (Constant SECOND (4 * suc n) ∷ Argument 0 FIRST ∷ Argument 1 SECOND ∷ Call FIRST CLEAR ∷ k) v g)
        (at (awaiting c FIRST) memory k (put (put v SECOND (4 * suc n)) FIRST word) no_words)

  pub clear_called : (n : ℕ) (m : Memory) (a : ℕ) (v g : Vars) → v FIRST ≡ Some a → a + 4 * suc n < 2 ^ 32 → Sized m → HasData own statics m
      → Area m a (suc n) → Cleared n m a v g
  clear_called n m a v g ea small_a sized data_there there =
      let bytes : ℕ = 4 * suc n in
      let v1 : Vars = put v SECOND bytes in
      let g1 : Vars = put g 0 a in
      let g2 : Vars = put g1 1 bytes in
      let small : bytes < 2 ^ 32 = omega (arith, small_a) in
      let l3 : List WordInstr = Call FIRST CLEAR ∷ k in
      let l2 : List WordInstr = Argument 1 SECOND ∷ l3 in
      let l1 : List WordInstr = Argument 0 FIRST ∷ l2 in
      let r1 = run_constant live procs c m l1 v g SECOND bytes in
      let r2 = run_argument live procs c m l2 v1 g 0 FIRST ea in
      let r3 = run_argument live procs c m l3 v1 g1 1 SECOND (got bytes small) in
      let u : Clearing = record { to = a; behind = n } in
      let called = reaches.clears u (at c m l3 v1 g2) FIRST k
      (record { next = refl; given = (got a (omega (arith, small_a)), (got bytes small, tt)) }) sized data_there there in
      record {
        memory = called.memory;
        word = called.word;
        is = cleared_changed law u m called.memory sized there called.leaves;
        steps = called.lines;
        few = called.few;
        runs = then_runs live procs (then_runs live procs r1 (then_runs live procs r2 r3)) (record { by = called.steps });
      }
