use Rattle.std.proofs.Common.{sym, ◌∙◌, arith}
use Rattle.reg_scan.specs.Fine.{is_right_at}
use Rattle.reg_scan.proofs.FineHomes.{one_more, right_as}
use Rattle.reg_scan.proofs.fine.are_right.Goals as goal

pub loop-register-preserved : goal.loop-register-preserved
loop-register-preserved c =
    one_more
    (is_right_at c.args.of.now c.args.homes.now c.effect_of-effect.result c.position_of-there.result c.position_of-own.result c.args.position)
    c.loop-register.register c.loop-register.invariant (sym c.is_right.ensures ∙ c.if-not-is_right.false)

pub returns : goal.returns
returns c = λ _ r small.
    right_as c.args.of.now c.args.labels.now c.args.homes.now c.args.line c.effect_of-effect.result c.label_of.result c.position_of-there.result
    c.position_of-own.result c.args.position r c.effect_of-effect.ensures c.position_of-there.ensures c.label_of.ensures c.position_of-own.ensures
    ∙ c.loop-register.invariant r (omega (arith, small, c.loop-register-test.false))
