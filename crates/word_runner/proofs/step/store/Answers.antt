use Rattle.std.proofs.Common.{[], drop, sym, ap}
use Rattle.arc_base.specs.Stepping.{Goes}
use Rattle.word_code.specs.Memory.{Memory}
use Rattle.word_runner.specs.View.{proc_in, state_is}
use Rattle.word_runner.proofs.StepRows.{kept_same, quietly}
use Rattle.word_runner.proofs.step.store.Goals as goal

pub returns : goal.returns
returns c =
    λ procs. quietly procs _ _ _ _ (kept_same _)
    (λ live rest.
    let s = state_is procs c.args.run.now rest in
    let lines = drop c.args.next (proc_in procs c.args.run.now.frame.proc).lines in
    ap (λ (m : Memory). Goes [] 1 (record s { memory = m; frame = record s.frame { left = lines } })) (sym c.put_number.ensures))
