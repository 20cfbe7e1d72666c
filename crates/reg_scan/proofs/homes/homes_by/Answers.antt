use Rattle.std.proofs.Common.{◌+◌, sym, subst}
use Rattle.reg_scan.specs.Fine.{AreOwn}
use Rattle.reg_scan.proofs.OwnHomes.{own_none, own_more}
use Rattle.reg_scan.proofs.homes.homes_by.Goals as goal

pub loop-variable-init : goal.loop-variable-init
loop-variable-init c = subst (AreOwn c.args.given c.args.vars 0) (sym c.new-homes.ensures) (own_none c.args.given c.args.vars)

pub loop-variable-preserved : goal.loop-variable-preserved
loop-variable-preserved c =
    let i = c.loop-variable.variable in
    subst (AreOwn c.args.given c.args.vars (i + 1)) (sym c.in_ok-push.ensures.ok)
    (own_more c.args.given c.args.vars i c.loop-variable.homes c.own_home.result c.loop-variable.invariant c.own_home.ensures)
