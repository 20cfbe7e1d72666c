use Rattle.std.proofs.Common.{◌≡◌, ◌-◌, ℕ, suc, drop, Some, arith, ap}
use Rattle.word_code.specs.Words.{onward, scene_of, spent}
use Rattle.word_runner.specs.View.{proc_in, state_is}
use Rattle.word_runner.proofs.StepRows.{kept_same, quietly}
use Rattle.word_runner.proofs.step.spend.Goals as goal

pub returns-then-run-eq0 : goal.returns-then-run-eq0
returns-then-run-eq0 c =
    λ procs. record {
      follows = λ live rest ends.
          let s = state_is procs c.args.run.now rest in
          let next = onward s (drop c.args.next (proc_in procs c.args.run.now.frame.proc).lines) (scene_of s) in
          let none : c.args.run.now.units ≡ 0 = omega (arith, c.if-run-eq0.true) in
          ap (λ (u : ℕ). spent (Some u) next s) none;
      wants = tt;
      kept = kept_same _;
    }

pub returns : goal.returns
returns c =
    λ procs. quietly procs _ _ _ _ (kept_same _)
    (λ live rest.
    let s = state_is procs c.args.run.now rest in
    let next = onward s (drop c.args.next (proc_in procs c.args.run.now.frame.proc).lines) (scene_of s) in
    let some : c.args.run.now.units ≡ suc (c.args.run.now.units - 1) = omega (arith, c.if-run-eq0.false) in ap (λ (u : ℕ). spent (Some u) next s) some)
