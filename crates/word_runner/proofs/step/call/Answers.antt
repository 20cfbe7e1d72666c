use Rattle.std.proofs.Common.{ℕ, Bool, true, false, List, [], drop, sym, ap, ◌∙◌}
use Rattle.std.specs.Prelude.{if◌then◌else◌}
use Rattle.arc_base.specs.Stepping.{Goes, Faults}
use Rattle.word_code.specs.Words.{entered, scene_of, seen_call}
use Rattle.word_runner.specs.Books.{from_position}
use Rattle.word_runner.specs.Steps.{begun}
use Rattle.word_runner.specs.View.{proc_in, proc_or, state_is}
use Rattle.word_runner.proofs.BookRows.{drop_all, drop_at, got}
use Rattle.word_runner.proofs.CallRows.{seen_quiet}
use Rattle.word_runner.proofs.StepRows.{at_fault, kept_as, kept_same, refused}
use Rattle.word_runner.proofs.step.call.Goals as goal

pub returns-in-None : goal.returns-in-None
returns-in-None c =
    let a = c.args in
    at_fault a.procs.now _ _ _ _ (kept_same _)
    (λ live rest.
    let s = state_is a.procs.now a.run.now rest in
    ap (entered [] s (drop a.next (proc_in a.procs.now a.run.now.frame.proc).lines) (scene_of s) a.to)
    (c.requires.books.numbers a.callee ∙ ap (from_position a.procs.now) (sym c.number.ensures ∙ c.in-None.is)))

pub returns-in-None-get : goal.returns-in-None-get
returns-in-None-get c =
    let a = c.args in
    at_fault a.procs.now _ _ _ _ (kept_same _)
    (λ live rest.
    let s = state_is a.procs.now a.run.now rest in
    ap (entered [] s (drop a.next (proc_in a.procs.now a.run.now.frame.proc).lines) (scene_of s) a.to)
    (c.requires.books.numbers a.callee ∙ ap (from_position a.procs.now) (sym c.number.ensures ∙ c.in-Some.is)
    ∙ drop_all a.procs.now c.in-Some.i c.in-None-get.ensures.lookup.3))

pub returns-then-is_refused : goal.returns-then-is_refused
returns-then-is_refused c =
    let a = c.args in
    let procs = a.procs.now in
    let p = c.in-Some-get.p.now in
    at_fault procs _ _ _ _ (kept_same _)
    (λ live rest.
    let s = state_is procs a.run.now rest in
    let lines = drop a.next (proc_in procs a.run.now.frame.proc).lines in
    ap (entered [] s lines (scene_of s) a.to) (c.requires.books.numbers a.callee ∙ ap (from_position procs) (sym c.number.ensures ∙ c.in-Some.is)
    ∙ drop_at procs c.in-Some.i p (got procs c.in-Some.i p c.in-Some-get.ensures.lookup.3.0 c.in-Some-get.ensures.lookup.1))
    ∙ ap (λ (b : Bool). if b then Faults else Goes (seen_call p.kind) 1 (begun s a.to lines p)) (sym c.is_refused.ensures ∙ c.if-is_refused.true))

pub returns-in-Err : goal.returns-in-Err
returns-in-Err c = refused c.args.procs.now _ _ _ _ (kept_as _ _ c.begin.ensures.input)

pub returns-in-Ok : goal.returns-in-Ok
returns-in-Ok c =
    let a = c.args in
    let procs = a.procs.now in
    let p = c.in-Some-get.p.now in
    let there = got procs c.in-Some.i p c.in-Some-get.ensures.lookup.3.0 c.in-Some-get.ensures.lookup.1 in
    let begins = λ (rest : List ℕ). c.in-Ok.ensures.begun procs rest (ap proc_or c.requires.own) (ap proc_or there) in
    record {
      follows = λ live rest ends.
          let s = state_is procs a.run.now rest in
          let lines = drop a.next (proc_in procs a.run.now.frame.proc).lines in (
            seen_call p.kind,
            seen_quiet p.kind,
            ap (entered [] s lines (scene_of s) a.to)
                (c.requires.books.numbers a.callee ∙ ap (from_position procs) (sym c.number.ensures ∙ c.in-Some.is) ∙ drop_at procs c.in-Some.i p there)
                ∙ ap (λ (b : Bool). if b then Faults else Goes (seen_call p.kind) 1 (begun s a.to lines p)) (sym c.is_refused.ensures ∙ c.if-is_refused.false)
                ∙ ap (Goes (seen_call p.kind) 1) (sym (begins rest)),
          );
      wants = tt;
      kept = kept_as _ _ c.begin.ensures.input;
    }
