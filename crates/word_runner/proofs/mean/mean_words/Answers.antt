use Rattle.std.proofs.Common.{◌≡◌, ◌-◌, List, subst, arith, Option, Some}
use Rattle.rv32_runner.specs.Streams.{Feed}
use Rattle.word_code.specs.declared.word.WordProc.{WordProc}
use Rattle.word_code.specs.Words.{first_of, from_proc}
use Rattle.std.specs.Prelude.{IfSome}
use Rattle.word_runner.specs.declared.mean.MeanEnd.{MeanEnd}
use Rattle.word_runner.specs.Mean.{Failed}
use Rattle.word_runner.specs.View.{proc_in}
use Rattle.word_runner.proofs.UnderRows.{begins, came, fails, goes_on, less_left, no_run, refuses, stops, takes_more}
use Rattle.word_runner.proofs.mean.mean_words.Goals as goal

-- what is so of an end
failed_of : (f now : Feed) (result : Option MeanEnd) (end : MeanEnd) → result ≡ Some end
    → ((old new : Feed) → new.faults ≡ old.faults → IfSome result (λ e. Failed e old new)) → now.faults ≡ f.faults → Failed end f now
failed_of f now result end is h e = subst (λ r. IfSome r (λ x. Failed x f now)) is (h f now e)

pub takes-init : goal.takes-init
takes-init g c =
    let h = c.in-Ok-begun.ensures in
    begins c.args.code.now c.args.heap c.args.units _ c.in-Ok-begun.run' _ _ _ _ c.requires.1.1.1.0
    (λ rest. h.state rest (subst (λ (p : List WordProc). proc_in p c.first_of-first.result ≡ first_of (from_proc 0 p)) c.as_slice-procs.ensures
    (c.first_of-first.ensures c.in-Ok.ensures))) h.none.0 h.none.1 h.none.2

pub go-requires : goal.go-requires
go-requires g c κs within = (
  within.0,
  (
    within.1,
    (
      c.in-Ok.ensures,
      (
        c.takes.invariant.within,
        stops c.args.code.now c.args.heap c.args.units _ c.takes.run _ _ _ c.takes.invariant _ c.as_slice-procs.ensures g.most c.requires.1.1.1.1,
      ),
    ),
  ),
)

pub takes-preserved : goal.takes-preserved
takes-preserved g c =
    let under = goes_on c.args.code.now c.args.heap c.args.units _ c.takes.run _ _ _ c.takes.invariant c.go.new.run _ _ c.go.ensures.kept _
    c.as_slice-procs.ensures
    (λ live rest ends shown h. rw c.in_default-go.is at (c.go.ensures.goes live rest ends shown _ _ _ _ h)) in
    takes_more c.args.code.now c.args.heap c.args.units _ c.go.new.run _ _ _ under c.take_more.new.run _ (rw c.in_default-go.is at c.go.ensures.wants)
    (rw c.in-More.is at c.take_more.ensures)

pub returns-in-Failed : goal.returns-in-Failed
returns-in-Failed g c =
    let under = goes_on c.args.code.now c.args.heap c.args.units _ c.takes.run _ _ _ c.takes.invariant c.go.new.run _ _ c.go.ensures.kept _
    c.as_slice-procs.ensures
    (λ live rest ends shown h. rw c.in_default-go.is at (c.go.ensures.goes live rest ends shown _ _ _ _ h)) in
    fails c.args.code.now c.args.heap c.args.units _ c.go.new.run _ _ _ under _ c.take_more.new.run (rw c.in-Failed.is at c.take_more.ensures)

pub returns-in-Memory : goal.returns-in-Memory
returns-in-Memory g c =
    let under = goes_on c.args.code.now c.args.heap c.args.units _ c.takes.run _ _ _ c.takes.invariant c.go.new.run _ _ c.go.ensures.kept _
    c.as_slice-procs.ensures
    (λ live rest ends shown h. rw c.in_default-go.is at (c.go.ensures.goes live rest ends shown _ _ _ _ h)) in
    refuses c.args.code.now c.args.heap c.args.units _ c.go.new.run _ _ _ under _ c.take_more.new.run (rw c.in-Memory.is at c.take_more.ensures)

pub returns-in-Some : goal.returns-in-Some
returns-in-Some g c =
    let u = c.takes.invariant in
    came c.args.code.now c.args.heap c.args.units _ c.takes.run _ _ _ u c.in-Some.end _ _ _ c.as_slice-procs.ensures
    (λ live rest ends shown h. rw c.in-Some.is at (c.go.ensures.goes live rest ends shown _ _ _ _ h))
    (failed_of _ _ _ _ c.in-Some.is c.go.ensures.unfailed u.faults)

pub returns-in_default : goal.returns-in_default
returns-in_default g c = λ live. no_run _ _ _ _ _ _

pub returns-in_default-begun : goal.returns-in_default-begun
returns-in_default-begun g c = λ live. no_run _ _ _ _ _ _

pub takes-smaller : goal.takes-smaller
takes-smaller g c =
    let new = c.take_more.new.run in
    less_left c.takes.run c.go.new.run new _ _ c.go.ensures.kept (rw c.in_default-go.is at c.go.ensures.wants) (omega (arith, new.input.taken.ok.0))
    (rw c.in-More.is at c.take_more.ensures)
