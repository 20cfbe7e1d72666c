use Rattle.std.proofs.Common.{◌≡◌, ◌∷◌, ◌-◌, ◌∙◌, sym, ap, subst, drop, arith, map}
use Rattle.nim_program.specs.View.{label_of, branch_labels}
use Rattle.program_limits.specs.Meeting.{Met, branch_before, labels_before}
use Rattle.program_limits.proofs.Capping.{drop_next}
use Rattle.program_limits.proofs.label_texts.of_branch_labels.Goals as goal

pub loop-i-preserved : goal.loop-i-preserved
loop-i-preserved c =
    let at = c.loop-i in
    let all = c.args.branches.now.items in
    let branch = c.index.result.now in
    let next : drop (at.i - 1) all ≡ branch ∷ drop at.i all =
    drop_next all (at.i - 1) branch (omega (arith, at.invariant.0, c.loop-i-test.true)) c.index.ensures
    ∙ ap (λ n. branch ∷ drop n all) (omega (arith, c.loop-i-test.true)) in (
      omega (arith, at.invariant.0),
      λ met h.
          let rest = labels_before (branch_labels (drop at.i all)) met in
          subst (λ branches. Met c.of_labels.new.texts (labels_before (branch_labels branches) met)) (sym next)
          (subst (λ labels. Met c.of_labels.new.texts (branch_before (map label_of labels) rest)) c.as_slice.ensures
          (c.of_labels.ensures rest (at.invariant.1 met h))),
    )
