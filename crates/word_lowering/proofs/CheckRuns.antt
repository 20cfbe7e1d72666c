-- What the lines of a call do before it: they check that it isn't one too many, and count the calls that may be active behind it.
use Rattle.std.proofs.Common.{◌≡◌, ℕ, suc, ◌+◌, ◌-◌, ◌^◌, ◌<◌, ◌≤◌, ◌%◌, List, ◌∷◌, Some, Bool, true, false}
use Rattle.std.proofs.Common.{refl, ap, ◌∙◌, arith}
use Rattle.std.proofs.lemmas.Bool.{le-ltb, lt-ltb, true≢false}
use Rattle.rv32_isa.specs.Machine.{Lives}
use Rattle.nim_program.specs.declared.program.TheConstants.{ACTIVE_CALLS}
use Rattle.nim_program.specs.Traps.{CallDepth}
use Rattle.word_code.specs.declared.word.Test.TheVariants as test
use Rattle.word_code.specs.declared.word.WordInstr.{WordInstr}
use Rattle.word_code.specs.declared.word.WordInstr.TheVariants.{Sum, Branch}
use Rattle.word_code.specs.declared.word.WordProc.{WordProc}
use Rattle.word_code.specs.Memory.{Memory}
use Rattle.word_code.specs.Words.{Vars, put, from_label}
use Rattle.word_code.proofs.ForCallers.{got, Runs, Within, at, then_runs, run_constant, run_copy, run_sum, run_past, run_off}
use Rattle.word_lowering.specs.declared.homes.TheConstants.{LEFT, FIRST, SECOND}
use Rattle.word_lowering.specs.Operations.{trap_label}
use Rattle.word_lowering.specs.LineCode.{one_less, checked_code}
use Rattle.word_lowering.proofs.OrdinalRuns.{AllSame}
use Rattle.word_lowering.proofs.Moves.{same_more, same_first, same_second}
use Rattle.word_lowering.proofs.OperationRuns.{Led}

module _ (live : Lives) (procs : List WordProc) (c : Within) (m : Memory) (g v : Vars) (k : List WordInstr) where
  abbrev branch_behind : List WordInstr
  branch_behind = Branch test.Below SECOND FIRST (trap_label CallDepth) ∷ k

  abbrev sum_behind : List WordInstr
  sum_behind = Sum FIRST SECOND one_less ∷ branch_behind

  -- so many calls may be active behind the next one
  pub record Checked (start : Bool) (left : ℕ) : Type 0 where
    pub vars : Vars
    pub same : AllSame v vars
    pub number : vars FIRST ≡ Some left
    pub steps : ℕ
    pub some : 0 < steps
    pub few : steps ≤ 3
    pub runs : Runs live procs steps (at c m (checked_code start k) v g) (at c m k vars g)

  pub checked : (start : Bool) (left : ℕ) → suc left < 2 ^ 32 → (start ≡ true → suc left ≡ ACTIVE_CALLS)
      → (start ≡ false → v LEFT ≡ Some (suc left)) → Checked start left
  checked true left small all own =
      let e : ACTIVE_CALLS - 1 ≡ left = omega (arith, all refl) in
      record {
        vars = put v FIRST (ACTIVE_CALLS - 1);
        same = same_first v (ACTIVE_CALLS - 1);
        number = got (ACTIVE_CALLS - 1) (omega arith) ∙ ap Some e;
        steps = 1;
        some = omega arith;
        few = omega arith;
        runs = run_constant live procs c m k v g FIRST (ACTIVE_CALLS - 1);
      }
  checked false left small all own =
      let n : ℕ = suc left + one_less in
      let v1 : Vars = put v SECOND (suc left) in
      let v2 : Vars = put v1 FIRST n in
      let second : v1 SECOND ≡ Some (suc left) = got (suc left) small in
      let e : n % 2 ^ 32 ≡ left = omega (arith, small) in
      let first : v2 FIRST ≡ Some left = ap Some e in
      record {
        vars = v2;
        same = same_more v v1 v2 (same_second v (suc left)) (same_first v1 n);
        number = first;
        steps = 1 + (1 + 1);
        some = omega arith;
        few = omega arith;
        runs = then_runs live procs (run_copy live procs c m sum_behind v g SECOND LEFT (own refl))
            (then_runs live procs (run_sum live procs c m branch_behind v1 g FIRST SECOND one_less second)
            (run_past live procs c m k v2 g test.Below SECOND FIRST (trap_label CallDepth) second first (le-ltb (suc left) left (omega arith))));
      }

  -- no call may be active more
  pub refused : (start : Bool) (there : List WordInstr) → start ≡ false → v LEFT ≡ Some 0
      → from_label (trap_label CallDepth) c.proc.lines ≡ Some there → Led live procs c m g (checked_code start k) v there
  refused true there is own stands = absurd (true≢false is)
  refused false there is own stands =
      let v1 : Vars = put v SECOND 0 in
      let v2 : Vars = put v1 FIRST one_less in
      let second : v1 SECOND ≡ Some 0 = got 0 (omega arith) in
      let first : v2 FIRST ≡ Some one_less = got one_less (omega arith) in
      record {
        steps = 1 + (1 + 1);
        some = omega arith;
        few = omega arith;
        leads = record {
          vars = v2;
          same = same_more v v1 v2 (same_second v 0) (same_first v1 one_less);
          runs = then_runs live procs (run_copy live procs c m sum_behind v g SECOND LEFT own)
              (then_runs live procs (run_sum live procs c m branch_behind v1 g FIRST SECOND one_less second)
              (run_off live procs c m k v2 g test.Below SECOND FIRST (trap_label CallDepth) there second first (lt-ltb 0 one_less (omega arith)) stands));
        };
      }
