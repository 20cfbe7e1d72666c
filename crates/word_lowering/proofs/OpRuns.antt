-- How the code of operations runs that give a word to the variable of a place, or lead to the label of a trap, put together line by line.
use Rattle.std.proofs.Common.{◌≡◌, ℕ, ◌+◌, ◌^◌, ◌<◌, ◌≤◌, List, ◌∷◌, Some, true, false, subst, ◌∙◌, arith}
use Rattle.rv32_isa.specs.Machine.{Lives}
use Rattle.word_code.specs.declared.word.WordOperation.{WordOperation}
use Rattle.word_code.specs.declared.word.Test.{Test}
use Rattle.word_code.specs.declared.word.WordInstr.{WordInstr}
use Rattle.word_code.specs.declared.word.WordInstr.TheVariants.{Label, Constant, Copy, Compute, Sum, Branch}
use Rattle.word_code.specs.declared.word.WordProc.{WordProc}
use Rattle.word_code.specs.Memory.{Memory}
use Rattle.word_code.specs.Words.{computed, holds, Vars, put, from_label}
use Rattle.word_code.proofs.ForCallers.{Runs, then_runs, Within, at, run_label, run_constant, run_copy, run_sum, run_compute, run_past, run_off}
use Rattle.word_lowering.specs.declared.homes.TheConstants.{LEFT, FIRST, OWN_FROM}
use Rattle.word_lowering.proofs.OrdinalRuns.{put_here, put_other, put_low, AllBut, AllSame, but_one, Gives, Leads}
use Rattle.word_lowering.proofs.Moves.{all_same, same_more}

-- a variable for what comes between gets a word
pub same_put : (v : Vars) (s n : ℕ) → FIRST ≤ s → s < OWN_FROM → AllSame v (put v s n)
same_put v s n low high = record {
  others = λ u h. put_low v s n u high h;
  left = put_other v s n LEFT (λ e. absurd (omega (arith, e, low)));
}

pub same_but : (u v w : Vars) (to : ℕ) → AllSame u v → AllBut v to w → AllBut u to w
same_but u v w to x y = record {
  others = λ n h ne. y.others n h ne ∙ x.others n h;
  left = y.left ∙ x.left;
}

module _ (live : Lives) (procs : List WordProc) (c : Within) (m : Memory) (g : Vars) where
  abbrev pub GivesOf : List WordInstr → Vars → ℕ → ℕ → List WordInstr → ℕ → Type 0
  GivesOf = Gives live procs c m g

  abbrev pub LeadsOf : List WordInstr → Vars → List WordInstr → ℕ → Type 0
  LeadsOf = Leads live procs c m g

  module _ (k : List WordInstr) (v : Vars) (to n : ℕ) (high : OWN_FROM ≤ to) (small : n < 2 ^ 32) where
    -- the last line
    pub gives_constant : GivesOf (Constant to n ∷ k) v to n k 1
    gives_constant = record {
      vars = put v to n;
      given = put_here v to n small;
      but = but_one v v to n high (all_same v);
      runs = run_constant live procs c m k v g to n;
    }

    pub gives_copy : (from : ℕ) → v from ≡ Some n → GivesOf (Copy to from ∷ k) v to n k 1
    gives_copy from e = record {
      vars = put v to n;
      given = put_here v to n small;
      but = but_one v v to n high (all_same v);
      runs = run_copy live procs c m k v g to from e;
    }

    pub gives_sum : (from value a : ℕ) → v from ≡ Some a → a + value ≡ n → GivesOf (Sum to from value ∷ k) v to n k 1
    gives_sum from value a e is = record {
      vars = put v to n;
      given = put_here v to n small;
      but = but_one v v to n high (all_same v);
      runs = subst (λ r. Runs live procs 1 (at c m (Sum to from value ∷ k) v g) (at c m k (put v to r) g)) is
          (run_sum live procs c m k v g to from value e);
    }

    pub gives_computed : (operation : WordOperation) (left right a b : ℕ) → v left ≡ Some a → v right ≡ Some b → computed operation a b ≡ n
        → GivesOf (Compute to operation left right ∷ k) v to n k 1
    gives_computed operation left right a b e f is = record {
      vars = put v to n;
      given = put_here v to n small;
      but = but_one v v to n high (all_same v);
      runs = subst (λ r. Runs live procs 1 (at c m (Compute to operation left right ∷ k) v g) (at c m k (put v to r) g)) is
          (run_compute live procs c m k v g to operation left right e f);
    }

  -- lines before
  module _ (lines k : List WordInstr) (v : Vars) (to n steps : ℕ) where
    pub behind_constant : (s i : ℕ) → FIRST ≤ s → s < OWN_FROM → GivesOf lines (put v s i) to n k steps → GivesOf (Constant s i ∷ lines) v to n k
        (1 + steps)
    behind_constant s i low high x = record {
      vars = x.vars;
      given = x.given;
      but = same_but v (put v s i) x.vars to (same_put v s i low high) x.but;
      runs = then_runs live procs (run_constant live procs c m lines v g s i) x.runs;
    }

    pub behind_computed : (s : ℕ) (operation : WordOperation) (left right a b : ℕ) → FIRST ≤ s → s < OWN_FROM
        → v left ≡ Some a → v right ≡ Some b
        → GivesOf lines (put v s (computed operation a b)) to n k steps → GivesOf (Compute s operation left right ∷ lines) v to n k (1 + steps)
    behind_computed s operation left right a b low high e f x = record {
      vars = x.vars;
      given = x.given;
      but = same_but v (put v s (computed operation a b)) x.vars to (same_put v s (computed operation a b) low high) x.but;
      runs = then_runs live procs (run_compute live procs c m lines v g s operation left right e f) x.runs;
    }

    pub behind_branch : (test : Test) (left right label a b : ℕ) → v left ≡ Some a → v right ≡ Some b → holds test a b ≡ false
        → GivesOf lines v to n k steps → GivesOf (Branch test left right label ∷ lines) v to n k (1 + steps)
    behind_branch test left right label a b e f h x = record {
      vars = x.vars;
      given = x.given;
      but = x.but;
      runs = then_runs live procs (run_past live procs c m lines v g test left right label e f h) x.runs;
    }

    pub behind_label : (name : ℕ) → GivesOf lines v to n k steps → GivesOf (Label name ∷ lines) v to n k (1 + steps)
    behind_label name x = record {
      vars = x.vars;
      given = x.given;
      but = x.but;
      runs = then_runs live procs (run_label live procs c m lines v g name) x.runs;
    }

    -- a branch that is taken, to lines of the same procedure
    pub behind_leap : (test : Test) (left right label a b : ℕ) (there : List WordInstr) → v left ≡ Some a → v right ≡ Some b → holds test a b
        ≡ true
        → from_label label c.proc.lines ≡ Some there → GivesOf there v to n k steps → GivesOf (Branch test left right label ∷ lines) v to n k
        (1 + steps)
    behind_leap test left right label a b there e f h stands x = record {
      vars = x.vars;
      given = x.given;
      but = x.but;
      runs = then_runs live procs (run_off live procs c m lines v g test left right label there e f h stands) x.runs;
    }

  -- the same of lines that lead somewhere
  module _ (lines there : List WordInstr) (v : Vars) where
    pub leads_off : (test : Test) (left right label a b : ℕ) → v left ≡ Some a → v right ≡ Some b → holds test a b ≡ true
        → from_label label c.proc.lines ≡ Some there → LeadsOf (Branch test left right label ∷ lines) v there 1
    leads_off test left right label a b e f h stands =
        record { vars = v; same = all_same v; runs = run_off live procs c m lines v g test left right label there e f h stands }

    pub leads_past : (steps : ℕ) (test : Test) (left right label a b : ℕ) → v left ≡ Some a → v right ≡ Some b → holds test a b ≡ false
        → LeadsOf lines v there steps → LeadsOf (Branch test left right label ∷ lines) v there (1 + steps)
    leads_past steps test left right label a b e f h x =
        record { vars = x.vars; same = x.same; runs = then_runs live procs (run_past live procs c m lines v g test left right label e f h) x.runs }

    pub leads_constant : (steps s i : ℕ) → FIRST ≤ s → s < OWN_FROM → LeadsOf lines (put v s i) there steps
        → LeadsOf (Constant s i ∷ lines) v there (1 + steps)
    leads_constant steps s i low high x = record {
      vars = x.vars;
      same = same_more v (put v s i) x.vars (same_put v s i low high) x.same;
      runs = then_runs live procs (run_constant live procs c m lines v g s i) x.runs;
    }

    pub leads_computed : (steps s : ℕ) (operation : WordOperation) (left right a b : ℕ) → FIRST ≤ s → s < OWN_FROM → v left ≡ Some a → v right
        ≡ Some b
        → LeadsOf lines (put v s (computed operation a b)) there steps → LeadsOf (Compute s operation left right ∷ lines) v there (1 + steps)
    leads_computed steps s operation left right a b low high e f x = record {
      vars = x.vars;
      same = same_more v (put v s (computed operation a b)) x.vars (same_put v s (computed operation a b) low high) x.same;
      runs = then_runs live procs (run_compute live procs c m lines v g s operation left right e f) x.runs;
    }
