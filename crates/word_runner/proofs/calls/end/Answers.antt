use Rattle.std.proofs.Common.{◌≡◌, [], refl, sym, ap, ◌∙◌, arith}
use Rattle.arc_base.specs.Stepping.{Goes}
use Rattle.word_code.specs.declared.word.WordProc.{WordProc}
use Rattle.word_code.specs.Memory.{without_places}
use Rattle.word_code.specs.Words.{Vars, returned}
use Rattle.word_runner.specs.View.{callers_are, frame_is, space_is, state_is}
use Rattle.word_runner.proofs.CallRows.{callers_more, none_left, same_state}
use Rattle.word_runner.proofs.calls.end.Goals as goal

pub returns-in-None-clause-over : goal.returns-in-None-clause-over
returns-in-None-clause-over c =
    λ procs rest own.
    let run = c.args.run.now in
    let s = state_is procs run rest in
    let none : run.callers.items ≡ [] = none_left run.callers.items (omega (arith, c.in-None.ensures.cases.0, run.callers.ok.0)) in
    ap (λ l. returned s c.args.word (callers_are procs l)) none

pub returns-in-Ok-clause-over : goal.returns-in-Ok-clause-over
returns-in-Ok-clause-over c =
    λ procs rest own.
    let run = c.args.run.now in
    let s = state_is procs run rest in
    let caller = c.in-Some.caller in
    let left = c.pop.new.self.items in
    ap (returned s c.args.word) (ap (callers_are procs) c.in-Some.ensures.items ∙ callers_more procs left caller)
    ∙ ap (Goes [] 1) (same_state _ _ refl (ap (λ (p : WordProc). without_places (space_is run.space) p.room) own ∙ sym c.cut.ensures) refl
    (ap (λ (v : Vars). record (frame_is procs caller) { vars = v }) (sym c.in-Ok.ensures)) refl)
