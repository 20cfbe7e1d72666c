-- What the routine that clears does.
use Rattle.std.proofs.Common.{◌≡◌, ℕ, zero, suc, ◌+◌, ◌*◌, ◌^◌, ◌<◌, List, [], ◌∷◌, Some, true, false, ap, subst, ◌∙◌, arith}
use Rattle.std.specs.Prelude.{◌==◌, not}
use Rattle.std.proofs.lemmas.Bool.{eq-eqb, ne_eqb}
use Rattle.rv32_isa.specs.declared.micro_op.Size.TheVariants.{Word}
use Rattle.rv32_isa.specs.Machine.{Lives}
use Rattle.word_code.specs.declared.word.Test.TheVariants as test
use Rattle.word_code.specs.declared.word.WordInstr.{WordInstr}
use Rattle.word_code.specs.declared.word.WordInstr.TheVariants.{Label, Store, Sum, Branch, Return}
use Rattle.word_code.specs.declared.word.WordProc.{WordProc}
use Rattle.word_code.specs.Memory.{Memory, with_number}
use Rattle.word_code.specs.Words.{Vars, put, from_label}
use Rattle.word_code.specs.RoutineTable.{Cell, Area}
use Rattle.word_code.proofs.ForCallers.{MemoryLaw, Sized, put_sized, put_area, got}
use Rattle.word_code.proofs.ForCallers.{Runs, then_runs, Within, at, run_label, run_store, run_sum, run_past, run_off}
use Rattle.refc_runtime.specs.Code.{clear_lines}
use Rattle.refc_runtime.proofs.Zeros.{with_zeros}

-- the lines from the label on
abbrev pub clear_loop : List WordInstr
clear_loop =
    Label 0
    ∷ Store 3 4 Word
    ∷ Sum 3 3 4
    ∷ Branch test.Unequal 3 2 0
    ∷ Return 2
    ∷ []

-- the lines behind the sum
abbrev pub clear_test : List WordInstr
clear_test = Branch test.Unequal 3 2 0 ∷ Return 2 ∷ []

module _ (law : MemoryLaw) (live : Lives) (procs : List WordProc) (c : Within) (is : c.proc.lines ≡ clear_lines) (g : Vars) where
  -- a word is cleared, and the address is that of the next one
  record Turn (m : Memory) (to end : ℕ) (v : Vars) : Type 0 where
    vars : Vars
    onto : vars 3 ≡ Some (to + 4)
    last : vars 2 ≡ Some end
    none : vars 4 ≡ Some 0
    runs : Runs live procs 3 (at c m clear_loop v g) (at c (with_number m to Word 0) clear_test vars g)

  turn : (m : Memory) (to end : ℕ) (v : Vars) → v 3 ≡ Some to → v 2 ≡ Some end → v 4 ≡ Some 0 → to + 4 < 2 ^ 32 → Cell m to → Turn m to end v
  turn m to end v e0 e1 e2 small there =
      let m1 : Memory = with_number m to Word 0 in
      let v1 : Vars = put v 3 (to + 4) in
      let r1 : Runs live procs 2 (at c m clear_loop v g) (at c m1 (Sum 3 3 4 ∷ clear_test) v g)
      = then_runs live procs (run_label live procs c m _ v g 0) (run_store live procs c m _ v g 3 4 Word e0 e2 there.may) in
      let r2 : Runs live procs 3 (at c m clear_loop v g) (at c m1 clear_test v1 g)
      = then_runs live procs r1 (run_sum live procs c m1 _ v g 3 3 4 e0) in
      record { vars = v1; onto = got (to + 4) small; last = e1; none = e2; runs = r2 }

  -- so many words are cleared
  pub record Cleared (words : ℕ) (m : Memory) (to : ℕ) (v : Vars) : Type 0 where
    pub vars : Vars
    pub last : vars 2 ≡ Some (to + 4 * words)
    pub runs : Runs live procs (4 * words) (at c m clear_loop v g) (at c (with_zeros words m to) (Return 2 ∷ []) vars g)

  pub clears : (n : ℕ) (m : Memory) (to end : ℕ) (v : Vars) → v 3 ≡ Some to → v 2 ≡ Some end → v 4 ≡ Some 0
      → end ≡ to + 4 * suc n → end < 2 ^ 32 → Sized m → Area m to (suc n) → Cleared (suc n) m to v
  clears zero m to end v e0 e1 e2 far small sized there =
      let t = turn m to end v e0 e1 e2 (omega arith) there.0 in
      let over : not (to + 4 == end) ≡ false = ap not (eq-eqb (to + 4) end (omega arith)) in
      record {
        vars = t.vars;
        last = t.last ∙ ap Some far;
        runs = then_runs live procs t.runs (run_past live procs c _ (Return 2 ∷ []) t.vars g test.Unequal 3 2 0 t.onto t.last over);
      }
  clears (suc n) m to end v e0 e1 e2 far small sized there =
      let t = turn m to end v e0 e1 e2 (omega arith) there.0 in
      let m1 : Memory = with_number m to Word 0 in
      let again : not (to + 4 == end) ≡ true = ap not (ne_eqb (to + 4) end (λ e. omega arith)) in
      let stands : from_label 0 c.proc.lines ≡ Some clear_loop = ap (from_label 0) is in
      let rest = clears n m1 (to + 4) end t.vars t.onto t.last t.none (omega arith) small
      (put_sized law m to 0 sized there.0.may) (put_area law m to 0 sized there.0 (omega arith) (to + 4) (suc n) there.1) in
      record {
        vars = rest.vars;
        last = rest.last ∙ ap Some (omega arith);
        runs = subst (λ k. Runs live procs k (at c m clear_loop v g) (at c (with_zeros (suc (suc n)) m to) (Return 2 ∷ []) rest.vars g)) (omega arith)
            (then_runs live procs (then_runs live procs t.runs
            (run_off live procs c m1 (Return 2 ∷ []) t.vars g test.Unequal 3 2 0 clear_loop t.onto t.last again stands)) rest.runs);
      }
