-- What the routine that copies does.
use Rattle.std.proofs.Common.{◌≡◌, ℕ, zero, suc, ◌+◌, ◌*◌, ◌%◌, ◌^◌, ◌<◌, List, [], ◌∷◌, Some, true, false, refl, ap, subst}
use Rattle.std.proofs.Common.{◌∙◌, arith}
use Rattle.std.specs.Prelude.{◌==◌, not}
use Rattle.std.proofs.lemmas.Bool.{eq-eqb, ne_eqb}
use Rattle.rv32_isa.specs.declared.micro_op.Size.TheVariants.{Word}
use Rattle.rv32_isa.specs.Machine.{Lives}
use Rattle.word_code.specs.declared.word.Test.TheVariants as test
use Rattle.word_code.specs.declared.word.WordInstr.{WordInstr}
use Rattle.word_code.specs.declared.word.WordInstr.TheVariants.{Label, Load, Store, Sum, Branch, Return}
use Rattle.word_code.specs.declared.word.WordProc.{WordProc}
use Rattle.word_code.specs.Memory.{Memory, with_number}
use Rattle.word_code.specs.Words.{Vars, put, from_label}
use Rattle.word_code.specs.RoutineTable.{Cell, Area}
use Rattle.word_code.proofs.ForCallers.{MemoryLaw, Sized, put_sized, put_area, with_copied, low_word, low_small, got_low, got}
use Rattle.word_code.proofs.ForCallers.{Runs, then_runs, Within, at, run_label, run_load, run_store, run_sum, run_past, run_off}
use Rattle.refc_runtime.specs.Code.{copy_lines}

-- the lines from the label on
abbrev pub copy_loop : List WordInstr
copy_loop =
    Label 0
    ∷ Load 6 5 Word
    ∷ Store 4 6 Word
    ∷ Sum 4 4 4
    ∷ Sum 5 5 4
    ∷ Branch test.Unequal 5 3 0
    ∷ Return 3
    ∷ []

-- the lines behind the sums
abbrev pub copy_test : List WordInstr
copy_test = Branch test.Unequal 5 3 0 ∷ Return 3 ∷ []

module _ (law : MemoryLaw) (live : Lives) (procs : List WordProc) (c : Within) (is : c.proc.lines ≡ copy_lines) (g : Vars) where
  -- a word is copied, and the addresses are those of the next one
  record Turn (m : Memory) (to from end : ℕ) (v : Vars) : Type 0 where
    vars : Vars
    onto : vars 4 ≡ Some (to + 4)
    there : vars 5 ≡ Some (from + 4)
    last : vars 3 ≡ Some end
    runs : Runs live procs 5 (at c m copy_loop v g) (at c (with_number m to Word (low_word m from)) copy_test vars g)

  turn : (m : Memory) (to from end : ℕ) (v : Vars) → v 4 ≡ Some to → v 5 ≡ Some from → v 3 ≡ Some end
      → to + 4 < 2 ^ 32 → from + 4 < 2 ^ 32 → Cell m to → Cell m from → Turn m to from end v
  turn m to from end v e0 e1 e2 small_to small_from there here =
      let w : ℕ = here.word in
      let m1 : Memory = with_number m to Word (w % 2 ^ 32) in
      let v1 : Vars = put v 6 w in
      let v2 : Vars = put v1 4 (to + 4) in
      let v3 : Vars = put v2 5 (from + 4) in
      let same : w % 2 ^ 32 ≡ low_word m from = got_low m from here in
      let r1 : Runs live procs 2 (at c m copy_loop v g) (at c m (Store 4 6 Word ∷ Sum 4 4 4 ∷ Sum 5 5 4 ∷ copy_test) v1 g)
      = then_runs live procs (run_label live procs c m _ v g 0) (run_load live procs c m _ v g 6 5 Word e1 here.reads) in
      let r2 : Runs live procs 3 (at c m copy_loop v g) (at c m1 (Sum 4 4 4 ∷ Sum 5 5 4 ∷ copy_test) v1 g)
      = then_runs live procs r1 (run_store live procs c m _ v1 g 4 6 Word e0 refl there.may) in
      let r3 : Runs live procs 4 (at c m copy_loop v g) (at c m1 (Sum 5 5 4 ∷ copy_test) v2 g)
      = then_runs live procs r2 (run_sum live procs c m1 _ v1 g 4 4 4 e0) in
      let r4 : Runs live procs 5 (at c m copy_loop v g) (at c m1 copy_test v3 g)
      = then_runs live procs r3 (run_sum live procs c m1 _ v2 g 5 5 4 e1) in
      record {
        vars = v3;
        onto = got (to + 4) small_to;
        there = got (from + 4) small_from;
        last = e2;
        runs = subst (λ x. Runs live procs 5 (at c m copy_loop v g) (at c (with_number m to Word x) copy_test v3 g)) same r4;
      }

  -- so many words are copied
  pub record Copied (words : ℕ) (m : Memory) (to from : ℕ) (v : Vars) : Type 0 where
    pub vars : Vars
    pub last : vars 3 ≡ Some (from + 4 * words)
    pub runs : Runs live procs (6 * words) (at c m copy_loop v g) (at c (with_copied words m to from) (Return 3 ∷ []) vars g)

  pub copies : (n : ℕ) (m : Memory) (to from end : ℕ) (v : Vars) → v 4 ≡ Some to → v 5 ≡ Some from → v 3 ≡ Some end
      → end ≡ from + 4 * suc n → to + 4 * suc n < 2 ^ 32 → end < 2 ^ 32 → Sized m → Area m to (suc n) → Area m from (suc n)
      → Copied (suc n) m to from v
  copies zero m to from end v e0 e1 e2 far small_to small_from sized there here =
      let t = turn m to from end v e0 e1 e2 (omega arith) (omega arith) there.0 here.0 in
      let over : not (from + 4 == end) ≡ false = ap not (eq-eqb (from + 4) end (omega arith)) in
      record {
        vars = t.vars;
        last = t.last ∙ ap Some far;
        runs = then_runs live procs t.runs (run_past live procs c _ (Return 3 ∷ []) t.vars g test.Unequal 5 3 0 t.there t.last over);
      }
  copies (suc n) m to from end v e0 e1 e2 far small_to small_from sized there here =
      let t = turn m to from end v e0 e1 e2 (omega arith) (omega arith) there.0 here.0 in
      let w : ℕ = low_word m from in
      let m1 : Memory = with_number m to Word w in
      let small : w < 2 ^ 32 = low_small m from in
      let again : not (from + 4 == end) ≡ true = ap not (ne_eqb (from + 4) end (λ e. omega arith)) in
      let stands : from_label 0 c.proc.lines ≡ Some copy_loop = ap (from_label 0) is in
      let rest = copies n m1 (to + 4) (from + 4) end t.vars t.onto t.there t.last (omega arith) (omega arith) small_from
      (put_sized law m to w sized there.0.may)
      (put_area law m to w sized there.0 small (to + 4) (suc n) there.1)
      (put_area law m to w sized there.0 small (from + 4) (suc n) here.1) in
      record {
        vars = rest.vars;
        last = rest.last ∙ ap Some (omega arith);
        runs = subst (λ k. Runs live procs k (at c m copy_loop v g) (at c (with_copied (suc (suc n)) m to from) (Return 3 ∷ []) rest.vars g)) (omega arith)
            (then_runs live procs (then_runs live procs t.runs
            (run_off live procs c m1 (Return 3 ∷ []) t.vars g test.Unequal 5 3 0 copy_loop t.there t.last again stands)) rest.runs);
      }
