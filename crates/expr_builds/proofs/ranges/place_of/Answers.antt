use Rattle.std.proofs.Common.{sym, ◌∙◌, ◌+◌, ◌-◌, ◌/◌, arith}
use Rattle.expr_builds.proofs.Ranging.{before_too, behind_too}
use Rattle.expr_builds.proofs.ranges.place_of.Goals as goal

pub loop-first-preserved-then-ends_at : goal.loop-first-preserved-then-ends_at
loop-first-preserved-then-ends_at c =
    let at = c.loop-first in
    let m = at.first + (at.last - at.first) / 2 in
    record {
      order = omega (arith, c.loop-first-test.true, at.invariant.order);
      within = at.invariant.within;
      before = before_too c.args.ranges.now c.args.range.now m c.requires (sym c.ends_at.ensures ∙ c.if-ends_at.true);
      behind = at.invariant.behind;
    }

pub loop-first-preserved : goal.loop-first-preserved
loop-first-preserved c =
    let at = c.loop-first in
    let m = at.first + (at.last - at.first) / 2 in
    record {
      order = omega (arith, c.loop-first-test.true, at.invariant.order);
      within = omega (arith, c.loop-first-test.true, at.invariant.order, at.invariant.within);
      before = at.invariant.before;
      behind = behind_too c.args.ranges.now c.args.range.now m c.requires (sym c.ends_at.ensures ∙ c.if-ends_at.false);
    }
