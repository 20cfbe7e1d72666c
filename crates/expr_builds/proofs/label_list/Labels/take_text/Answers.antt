use Rattle.std.proofs.Common.{List, ◌++◌, ◌∷◌, [], ℕ, ap, ◌∙◌}
use Rattle.std.specs.Prelude.{true, if◌then◌else◌, nat_eq}
use Rattle.std.specs.Cmp.Lexicographic.{pointwise}
use Rattle.std.specs.HashSet.{contains}
use Rattle.nim_program.specs.declared.expr.Label.TheVariants as label
use Rattle.expr_builds.proofs.Labelling.{with_text}
use Rattle.expr_builds.proofs.label_list.Labels.take_text.Goals as goal

pub invariant_of-self-2 : goal.invariant_of-self-2
invariant_of-self-2 c =
    let was = c.self.inside in
    let kept = c.in_ok-kept.kept in
    with_text was.given.items c.push_reserved.new.self.items was.ranges.items was.texts c.insert.new.self c.args.text.now kept c.self.invariant
    (c.push_reserved.ensures.items ∙ ap (λ ls. ls ++ label.Text kept ∷ []) c.in_ok-reserve.ensures.items)
    (c.in_ok-kept.ensures ∙ c.as_slice-2.ensures)
    (λ q.
    c.in_ok-insert.ensures.updates.0 q
    ∙ ap (λ (s : List ℕ). if pointwise nat_eq s q then true else contains (pointwise nat_eq) was.texts q) (c.in_ok-copy.ensures ∙ c.as_slice.ensures))
