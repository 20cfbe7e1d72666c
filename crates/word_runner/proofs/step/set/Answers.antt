use Rattle.std.proofs.Common.{[], drop, sym, ap}
use Rattle.arc_base.specs.Stepping.{Goes}
use Rattle.word_code.specs.Words.{Vars}
use Rattle.word_runner.specs.View.{proc_in, state_is}
use Rattle.word_runner.proofs.StepRows.{kept_same, quietly, refused}
use Rattle.word_runner.proofs.step.set.Goals as goal

pub returns-in-Err : goal.returns-in-Err
returns-in-Err c = λ procs. refused procs _ _ _ _ (kept_same _)

pub returns-in-Ok : goal.returns-in-Ok
returns-in-Ok c =
    λ procs. quietly procs _ _ _ _ (kept_same _)
    (λ live rest.
    let s = state_is procs c.args.run.now rest in
    let lines = drop c.args.next (proc_in procs c.args.run.now.frame.proc).lines in
    ap (λ (v : Vars). Goes [] 1 (record s { frame = record s.frame { left = lines; vars = v } })) (sym c.in-Ok.ensures))
