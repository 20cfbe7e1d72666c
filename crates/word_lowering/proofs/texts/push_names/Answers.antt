use Rattle.std.proofs.Common.{suc, ◌++◌, drop, sym, ap, ◌∙◌, add-one, append_assoc}
use Rattle.word_lowering.specs.Texts.{all_names, members_of, joined_all}
use Rattle.word_lowering.proofs.EntryNames.{names_from, joined_append}
use Rattle.word_lowering.proofs.texts.push_names.Goals as goal

pub loop-id-preserved : goal.loop-id-preserved
loop-id-preserved c =
    let t = c.args.types.now in
    let old = c.loop-id.bytes in
    let names = members_of c.get.result.now in
    let rest = all_names (drop (suc c.loop-id.id) t) in
    rw add-one
    (ap (λ l. l ++ joined_all rest) (c.in_ok-push_members.ensures ∙ ap (λ l. old ++ joined_all l) c.members_of.ensures)
    ∙ append_assoc old (joined_all names) (joined_all rest)
    ∙ ap (λ l. old ++ l) (sym (joined_append names rest) ∙ ap joined_all (sym (names_from t c.loop-id.id _ c.get.ensures.entry)))
    ∙ c.loop-id.invariant)
