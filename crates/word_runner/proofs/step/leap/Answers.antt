use Rattle.std.proofs.Common.{drop, Option, Some, sym, ap, ◌∙◌}
use Rattle.std.specs.Prelude.{option_map}
use Rattle.word_code.specs.declared.word.WordProc.{WordProc}
use Rattle.word_code.specs.Words.{from_label, jumped, scene_of}
use Rattle.word_runner.specs.View.{proc_or, state_is}
use Rattle.word_runner.proofs.BookRows.{labels_of_proc}
use Rattle.word_runner.proofs.StepRows.{at_fault, kept_same, quietly}
use Rattle.word_runner.proofs.step.leap.Goals as goal

pub returns-in-None : goal.returns-in-None
returns-in-None c =
    λ procs own books there. at_fault procs _ _ _ _ (kept_same _)
    (λ live rest.
    let s = state_is procs c.args.run.now rest in
    ap (jumped s (scene_of s)) (ap (λ (p : Option WordProc). from_label c.args.name (proc_or p).lines) there
    ∙ labels_of_proc procs c.args.books.now.labels.items c.args.run.now.frame.proc own books.labels there c.args.name
    ∙ ap (option_map (λ i. drop i own.lines)) (sym c.label.ensures ∙ c.in-None.is)))

pub returns-in-Some : goal.returns-in-Some
returns-in-Some c =
    λ procs own books there. quietly procs _ _ _ _ (kept_same _)
    (λ live rest.
    let s = state_is procs c.args.run.now rest in
    ap (jumped s (scene_of s)) (ap (λ (p : Option WordProc). from_label c.args.name (proc_or p).lines) there
    ∙ labels_of_proc procs c.args.books.now.labels.items c.args.run.now.frame.proc own books.labels there c.args.name
    ∙ ap (option_map (λ i. drop i own.lines)) (sym c.label.ensures ∙ c.in-Some.is)
    ∙ ap (λ (p : Option WordProc). Some (drop c.in-Some.at (proc_or p).lines)) (sym there)))
