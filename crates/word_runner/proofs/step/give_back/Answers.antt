use Rattle.std.proofs.Common.{true, false, ap, subst}
use Rattle.word_runner.specs.Steps.{Ended}
use Rattle.word_runner.specs.View.{proc_or}
use Rattle.word_runner.proofs.StepRows.{at_fault, kept_as, quietly, refused}
use Rattle.word_runner.proofs.step.give_back.Goals as goal

pub returns-then-is_over : goal.returns-then-is_over
returns-then-is_over c =
    let a = c.args in
    quietly a.procs.now _ _ _ _ (kept_as _ _ c.end.ensures.input)
    (λ live rest. subst (Ended a.procs.now a.run.now a.word rest c.end.new.run) c.if-is_over.true
    (c.in-Ok.ensures.over a.procs.now rest (ap proc_or c.requires.own)))

pub returns-else-is_over : goal.returns-else-is_over
returns-else-is_over c =
    let a = c.args in
    at_fault a.procs.now _ _ _ _ (kept_as _ _ c.end.ensures.input)
    (λ live rest. subst (Ended a.procs.now a.run.now a.word rest c.end.new.run) c.if-is_over.false
    (c.in-Ok.ensures.over a.procs.now rest (ap proc_or c.requires.own)))

pub returns-in-Err : goal.returns-in-Err
returns-in-Err c = refused c.args.procs.now _ _ _ _ (kept_as _ _ c.end.ensures.input)
