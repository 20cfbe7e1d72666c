use Rattle.std.proofs.Common.{List, ◌≡◌, ◌++◌, ap, subst, ◌∙◌, append_assoc}
use Rattle.std.specs.Prelude.{OnOk}
use Rattle.word_code.specs.declared.word.WordProc.{WordProc}
use Rattle.hook_code.specs.HookCode.{hook_procs, cut_procs}
use Rattle.hook_code.proofs.procs.put_hooks.Goals as goal

pub returns : goal.returns
returns c =
    let hooks : List WordProc = hook_procs c.args.types.now c.args.first c.args.hooks.now.of in
    let cuts : List WordProc = cut_procs c.args.types.now c.args.first c.args.hooks.now.cuts in
    let each = ap (λ hs. c.args.all.now ++ hook_procs c.args.types.now c.args.first hs) c.as_slice.ensures in
    let those = ap (λ cs. (c.args.all.now ++ hooks) ++ cut_procs c.args.types.now c.args.first cs) c.as_slice-2.ensures in
    subst (λ (l : List WordProc). OnOk c.push_cuts.result (c.push_cuts.new.all ≡ l))
    (ap (λ (l : List WordProc). l ++ cut_procs c.args.types.now c.args.first c.as_slice-2.result.now) (c.in_ok-push_hooks.ensures ∙ each)
    ∙ (those ∙ append_assoc c.args.all.now hooks cuts)) c.push_cuts.ensures
