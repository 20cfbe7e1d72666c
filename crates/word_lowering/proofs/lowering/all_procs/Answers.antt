use Rattle.std.proofs.Common.{List, [], ◌∷◌, ◌++◌, ap, ◌∙◌}
use Rattle.word_code.specs.declared.word.WordProc.{WordProc}
use Rattle.word_lowering.specs.Scope.{around_of}
use Rattle.word_lowering.proofs.WholeCode.{procs_are}
use Rattle.word_lowering.proofs.lowering.all_procs.Goals as goal

pub returns : goal.returns
returns c =
    procs_are (around_of c.args.x.now) c.args.start.now c.args.procs.now c.in_ok-word_proc.field-0 c.push.new.self c.push_procs.new.all
    c.in_ok-word_proc.ensures
    (c.in_ok-push.ensures.ok ∙ ap (λ (l : List WordProc). l ++ c.in_ok-word_proc.field-0 ∷ []) c.new-all.ensures) c.in_ok-push_procs.ensures
