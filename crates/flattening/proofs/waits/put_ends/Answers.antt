use Rattle.std.proofs.Common.{◌-◌, arith}
use Rattle.flattening.proofs.WaitPuts.{own_turn}
use Rattle.flattening.proofs.Writing.{puts_two, puts_as}
use Rattle.flattening.proofs.waits.put_ends.Goals as goal

pub loop-i-preserved : goal.loop-i-preserved
loop-i-preserved c = (
  omega arith,
  λ new put.
      c.loop-i.invariant.1 new
      (puts_as _ _ (puts_two c.put_own.ensures put)
      (own_turn c.args.ends.now (c.loop-i.i - 1) c.loop-i.i _ (omega (arith, c.loop-i.invariant.0, c.loop-i-test.true))
      (omega (arith, c.loop-i-test.true)))),
)
