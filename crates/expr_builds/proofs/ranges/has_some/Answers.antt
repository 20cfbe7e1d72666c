use Rattle.std.proofs.Common.{sym, ◌∙◌}
use Rattle.expr_builds.proofs.Ranging.{meets_is}
use Rattle.expr_builds.proofs.ranges.has_some.Goals as goal

pub returns : goal.returns
returns c = meets_is c.args.ranges.now c.args.range.now c.place_of.result c.requires c.place_of.ensures.place ∙ sym c.begins_by.ensures
