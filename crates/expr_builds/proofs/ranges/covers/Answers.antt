use Rattle.std.proofs.Common.{ap, ◌∙◌}
use Rattle.expr_rules.specs.Choices.{covers}
use Rattle.expr_builds.specs.ViewLabels.{span_in}
use Rattle.expr_builds.proofs.Labelling.{cover_is}
use Rattle.expr_builds.proofs.ranges.covers.Goals as goal

pub returns-in-Some : goal.returns-in-Some
returns-in-Some c = λ labels same.
    ap (λ o. covers (span_in o) labels) c.in-Some.is
    ∙ cover_is labels c.args.ranges.now c.requires same c.in-Some.span.from c.in-Some.span.to ∙ c.all_from.ensures
