use Rattle.std.proofs.Common.{ap₂, ◌∙◌}
use Rattle.std.specs.Prelude.{Bool, not, ◌&&◌}
use Rattle.expr_rules.specs.Paths.{same_root, differ}
use Rattle.expr_parts.specs.View.{steps_in}
use Rattle.expr_parts.proofs.Overlapping.{steps_are, differ_is}
use Rattle.expr_parts.proofs.overlap.overlap.Goals as goal

pub returns-clause-overlap : goal.returns-clause-overlap
returns-clause-overlap c = λ ts.
    let a = c.args.a.now in
    let b = c.args.b.now in
    ap₂ (λ (x y : Bool). x && not y)
    (ap₂ same_root (c.root_of.ensures ts) (c.root_of-2.ensures ts) ∙ c.is_same_root.ensures ∙ c.if-not-is_same_root.false)
    (ap₂ differ (steps_are ts a) (steps_are ts b) ∙ differ_is (steps_in a) (steps_in b) ∙ c.in_ok-steps_differ.ensures.differ)
