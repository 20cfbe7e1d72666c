use Rattle.std.proofs.Common.{List, ℕ, ◌≡◌, ◌++◌, ap, ap₂, subst, ◌∙◌}
use Rattle.std.specs.Prelude.{OnOk}
use Rattle.word_code.specs.declared.word.WordProc.{WordProc}
use Rattle.hook_code.specs.HookCode.{hook_procs, cut_procs, procs_in}
use Rattle.word_lowering.specs.LineCode.{proc_number}
use Rattle.word_lowering.proofs.lowering.push_hooks.Goals as goal

pub returns : goal.returns
returns c =
    let table = c.args.types.now in
    let first = c.in_ok-first.first in
    let lifted = c.in_ok-hooks.ensures in
    subst (λ (ps : List WordProc). OnOk c.put_hooks.result (c.put_hooks.new.all ≡ c.args.all.now ++ ps))
    (ap₂ (λ hs cs. hook_procs table first hs ++ cut_procs table first cs) lifted.0 lifted.1
    ∙ ap (λ (n : ℕ). procs_in table n) (c.in_ok-first.ensures ∙ ap proc_number c.in_ok-many.ensures)) c.put_hooks.ensures
