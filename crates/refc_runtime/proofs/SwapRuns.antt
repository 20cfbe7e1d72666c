-- What the routine does that lets words trade places.
use Rattle.std.proofs.Common.{◌≡◌, ℕ, zero, suc, ◌+◌, ◌*◌, ◌^◌, ◌<◌, List, [], ◌∷◌, Some, true, false, ap, subst}
use Rattle.std.proofs.Common.{◌∙◌, arith}
use Rattle.std.specs.Prelude.{◌==◌, not}
use Rattle.std.proofs.lemmas.Bool.{eq-eqb, ne_eqb}
use Rattle.rv32_isa.specs.declared.micro_op.Size.TheVariants.{Word}
use Rattle.rv32_isa.specs.Machine.{Lives}
use Rattle.word_code.specs.declared.word.Test.TheVariants as test
use Rattle.word_code.specs.declared.word.WordInstr.{WordInstr}
use Rattle.word_code.specs.declared.word.WordInstr.TheVariants.{Label, Load, Store, Sum, Branch, Return}
use Rattle.word_code.specs.declared.word.WordProc.{WordProc}
use Rattle.word_code.specs.Memory.{Memory, with_number}
use Rattle.word_code.specs.Words.{Vars, put, from_label}
use Rattle.word_code.specs.RoutineTable.{Cell, Area}
use Rattle.word_code.proofs.ForCallers.{MemoryLaw, Sized, put_cell, low_word, low_small, got_low, got}
use Rattle.word_code.proofs.ForCallers.{Runs, then_runs, Within, at, run_label, run_load, run_store, run_sum, run_past, run_off}
use Rattle.refc_runtime.specs.Code.{swap_lines}
use Rattle.refc_runtime.proofs.Traded.{traded, with_traded, area_kept, pair, pair_cells}

-- the lines from the label on
abbrev pub swap_loop : List WordInstr
swap_loop =
    Label 0
    ∷ Load 6 4 Word
    ∷ Load 7 5 Word
    ∷ Store 4 7 Word
    ∷ Store 5 6 Word
    ∷ Sum 4 4 4
    ∷ Sum 5 5 4
    ∷ Branch test.Unequal 4 3 0
    ∷ Return 3
    ∷ []

-- the lines behind the sums
abbrev pub swap_test : List WordInstr
swap_test = Branch test.Unequal 4 3 0 ∷ Return 3 ∷ []

module _ (law : MemoryLaw) (live : Lives) (procs : List WordProc) (c : Within) (is : c.proc.lines ≡ swap_lines) (g : Vars) where
  record Turn (m : Memory) (left right end : ℕ) (v : Vars) : Type 0 where
    vars : Vars
    onto : vars 4 ≡ Some (left + 4)
    there : vars 5 ≡ Some (right + 4)
    last : vars 3 ≡ Some end
    runs : Runs live procs 7 (at c m swap_loop v g) (at c (traded m left right) swap_test vars g)

  turn : (m : Memory) (left right end : ℕ) (v : Vars) → v 4 ≡ Some left → v 5 ≡ Some right → v 3 ≡ Some end
      → left + 4 < 2 ^ 32 → right + 4 < 2 ^ 32 → Sized m → Cell m left → Cell m right → Turn m left right end v
  turn m left right end v e0 e1 e2 small_left small_right sized here there =
      let a : ℕ = low_word m left in
      let b : ℕ = low_word m right in
      let m1 : Memory = with_number m left Word b in
      let m2 : Memory = with_number m1 right Word a in
      let v1 : Vars = put v 6 here.word in
      let v2 : Vars = put v1 7 there.word in
      let v3 : Vars = put v2 4 (left + 4) in
      let v4 : Vars = put v3 5 (right + 4) in
      let r1 : Runs live procs 1 (at c m swap_loop v g)
      (at c m (Load 6 4 Word ∷ Load 7 5 Word ∷ Store 4 7 Word ∷ Store 5 6 Word ∷ Sum 4 4 4 ∷ Sum 5 5 4 ∷ swap_test) v g)
      = run_label live procs c m _ v g 0 in
      let r2 : Runs live procs 1
      (at c m (Load 6 4 Word ∷ Load 7 5 Word ∷ Store 4 7 Word ∷ Store 5 6 Word ∷ Sum 4 4 4 ∷ Sum 5 5 4 ∷ swap_test) v g)
      (at c m (Load 7 5 Word ∷ Store 4 7 Word ∷ Store 5 6 Word ∷ Sum 4 4 4 ∷ Sum 5 5 4 ∷ swap_test) v1 g)
      = run_load live procs c m _ v g 6 4 Word e0 here.reads in
      let r3 : Runs live procs 1 (at c m (Load 7 5 Word ∷ Store 4 7 Word ∷ Store 5 6 Word ∷ Sum 4 4 4 ∷ Sum 5 5 4 ∷ swap_test) v1 g)
      (at c m (Store 4 7 Word ∷ Store 5 6 Word ∷ Sum 4 4 4 ∷ Sum 5 5 4 ∷ swap_test) v2 g)
      = run_load live procs c m _ v1 g 7 5 Word e1 there.reads in
      let r4 : Runs live procs 1 (at c m (Store 4 7 Word ∷ Store 5 6 Word ∷ Sum 4 4 4 ∷ Sum 5 5 4 ∷ swap_test) v2 g)
      (at c m1 (Store 5 6 Word ∷ Sum 4 4 4 ∷ Sum 5 5 4 ∷ swap_test) v2 g)
      = run_store live procs c m _ v2 g 4 7 Word e0 (ap Some (got_low m right there)) here.may in
      let later : Cell m1 right = put_cell law m left b sized here (low_small m right) right there in
      let r5 : Runs live procs 1 (at c m1 (Store 5 6 Word ∷ Sum 4 4 4 ∷ Sum 5 5 4 ∷ swap_test) v2 g)
      (at c m2 (Sum 4 4 4 ∷ Sum 5 5 4 ∷ swap_test) v2 g)
      = run_store live procs c m1 _ v2 g 5 6 Word e1 (ap Some (got_low m left here)) later.may in
      let r6 : Runs live procs 1 (at c m2 (Sum 4 4 4 ∷ Sum 5 5 4 ∷ swap_test) v2 g) (at c m2 (Sum 5 5 4 ∷ swap_test) v3 g)
      = run_sum live procs c m2 _ v2 g 4 4 4 e0 in
      let r7 : Runs live procs 1 (at c m2 (Sum 5 5 4 ∷ swap_test) v3 g) (at c m2 swap_test v4 g)
      = run_sum live procs c m2 _ v3 g 5 5 4 e1 in
      record {
        vars = v4;
        onto = got (left + 4) small_left;
        there = got (right + 4) small_right;
        last = e2;
        runs = then_runs live procs (then_runs live procs (then_runs live procs r1 r2) (then_runs live procs r3 r4))
            (then_runs live procs r5 (then_runs live procs r6 r7));
      }

  -- so many words trade places
  pub record Swapped (words : ℕ) (m : Memory) (left right : ℕ) (v : Vars) : Type 0 where
    pub vars : Vars
    pub last : vars 3 ≡ Some (left + 4 * words)
    pub runs : Runs live procs (8 * words) (at c m swap_loop v g) (at c (with_traded words m left right) (Return 3 ∷ []) vars g)

  pub swaps : (n : ℕ) (m : Memory) (left right end : ℕ) (v : Vars) → v 4 ≡ Some left → v 5 ≡ Some right → v 3 ≡ Some end
      → end ≡ left + 4 * suc n → end < 2 ^ 32 → right + 4 * suc n < 2 ^ 32 → Sized m → Area m left (suc n) → Area m right (suc n)
      → Swapped (suc n) m left right v
  swaps zero m left right end v e0 e1 e2 far small_left small_right sized here there =
      let t = turn m left right end v e0 e1 e2 (omega arith) (omega arith) sized here.0 there.0 in
      let over : not (left + 4 == end) ≡ false = ap not (eq-eqb (left + 4) end (omega arith)) in
      record {
        vars = t.vars;
        last = t.last ∙ ap Some far;
        runs = then_runs live procs t.runs (run_past live procs c _ (Return 3 ∷ []) t.vars g test.Unequal 4 3 0 t.onto t.last over);
      }
  swaps (suc n) m left right end v e0 e1 e2 far small_left small_right sized here there =
      let t = turn m left right end v e0 e1 e2 (omega arith) (omega arith) sized here.0 there.0 in
      let m1 : Memory = traded m left right in
      let p = pair law m left right sized here.0 there.0 in
      let cells : (b : ℕ) → Cell m b → Cell m1 b = pair_cells law m left right p in
      let again : not (left + 4 == end) ≡ true = ap not (ne_eqb (left + 4) end (λ e. omega arith)) in
      let stands : from_label 0 c.proc.lines ≡ Some swap_loop = ap (from_label 0) is in
      let rest = swaps n m1 (left + 4) (right + 4) end t.vars t.onto t.there t.last (omega arith) small_left (omega arith) p.second.sized
      (area_kept m m1 cells (left + 4) (suc n) here.1) (area_kept m m1 cells (right + 4) (suc n) there.1) in
      record {
        vars = rest.vars;
        last = rest.last ∙ ap Some (omega arith);
        runs = subst (λ k. Runs live procs k (at c m swap_loop v g) (at c (with_traded (suc (suc n)) m left right) (Return 3 ∷ []) rest.vars g))
            (omega arith) (then_runs live procs (then_runs live procs t.runs
            (run_off live procs c m1 (Return 3 ∷ []) t.vars g test.Unequal 4 3 0 swap_loop t.onto t.last again stands)) rest.runs);
      }
