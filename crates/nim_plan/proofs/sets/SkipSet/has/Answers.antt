use Rattle.std.proofs.Common.{subst}
use Rattle.std.specs.List.Sorted.{IsStrictlySortedBy}
use Rattle.nim_plan.specs.Order.{skip_order}
use Rattle.nim_plan.proofs.Kept.{has_skip}
use Rattle.nim_plan.proofs.Orders.{skips_rise}
use Rattle.nim_plan.proofs.sets.SkipSet.has.Goals as goal

pub returns-clause-order : goal.returns-clause-order
returns-clause-order c = subst (IsStrictlySortedBy skip_order) c.self.view_is (skips_rise c.self.inside.skips.keys c.self.invariant)

pub returns-clause-has : goal.returns-clause-has
returns-clause-has c =
    has_skip c.self.inside.skips c.args.self.now (c.args.place, c.args.exit) c.contains.result c.self.view_is c.contains.ensures
