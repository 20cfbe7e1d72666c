use Rattle.std.proofs.Common.{◌∷◌, drop, take, refl, sym, ap, ◌∙◌}
use Rattle.rv32_isa.specs.Values.{added}
use Rattle.word_code.specs.declared.word.WordProc.{WordProc}
use Rattle.word_code.specs.Words.{Vars}
use Rattle.word_runner.specs.declared.state.Frame.{Frame}
use Rattle.word_runner.specs.Steps.{begun}
use Rattle.word_runner.specs.View.{callers_are, frame_is, held_in, state_is}
use Rattle.word_runner.proofs.CallRows.{callers_more, params_taken, same_call, same_state}
use Rattle.word_runner.proofs.calls.begin.Goals as goal

pub returns-clause-begun : goal.returns-clause-begun
returns-clause-begun c =
    λ procs rest own callee.
    let a = c.args in
    let run = a.run.now in
    let old = state_is procs run rest in
    let lines = drop a.next old.frame.proc.lines in
    let given = run.frame.given.items in
    same_state _ (begun old a.to lines a.callee.now) refl c.in_ok-extend.ensures refl
    (ap (frame_is procs) c.replace-caller.ensures.after
    ∙ same_call _ _ _ _ _ _ _ _ _ callee
    (ap held_in (c.truncate.ensures.items ∙ ap (λ v. take a.callee.now.params v.items) c.replace-vars.ensures.value)
    ∙ params_taken a.callee.now given a.callee.now.params refl)
    c.no_words-given.ensures
    (ap (λ (p : WordProc). added run.frame.base p.room) (sym own)))
    (ap (callers_are procs) c.in_ok-push.ensures.items ∙ callers_more procs run.callers.items _
    ∙ ap (λ (f : Frame). frame_is procs (record f { at = a.next; awaits = a.to }) ∷ callers_are procs run.callers.items) c.replace-caller.ensures.value
    ∙ ap (λ (v : Vars). record old.frame { left = lines; given = v; awaits = a.to } ∷ callers_are procs run.callers.items)
    (ap (λ v. held_in v.items) c.replace-vars.ensures.after ∙ c.no_words-kept.ensures))
