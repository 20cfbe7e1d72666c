use Rattle.reg_scan.specs.Fine.{is_right}
use Rattle.reg_scan.proofs.FineHomes.{lines_more, lines_all}
use Rattle.reg_scan.proofs.fine.all_right.Goals as goal

pub loop-position-preserved : goal.loop-position-preserved
loop-position-preserved c =
    lines_more (is_right c.args.of.now c.args.homes.now c.args.labels.now) c.args.lines.now c.loop-position.position _ c.loop-position.invariant
    (c.are_right.ensures c.if-not-are_right.false)

pub returns : goal.returns
returns c = λ _.
    lines_all (is_right c.args.of.now c.args.homes.now c.args.labels.now) c.args.lines.now c.loop-position.position c.loop-position-test.false
    c.loop-position.invariant
