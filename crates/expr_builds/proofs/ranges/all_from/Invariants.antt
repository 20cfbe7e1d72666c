use Rattle.std.proofs.Common.{◌≡◌, drop}
use Rattle.expr_builds.specs.ViewLabels.{all_from}
use Rattle.expr_builds.proofs.ranges.all_from.Given as goal

abbrev pub invariant-loop-range : goal.invariant-loop-range
invariant-loop-range l = all_from l.next l.span.to (drop l.range-index l.ranges) ≡ all_from l.span.from l.span.to l.ranges
