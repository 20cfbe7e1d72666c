use Rattle.std.proofs.Common.{arith}
use Rattle.rv32_runner.proofs.Calling.{ran_over, ran_all, carried_more, carried_start}
use Rattle.rv32_runner.proofs.runner.go.Goals as goal

pub loop-left-init : goal.loop-left-init
loop-left-init g c = record { within = omega arith; regions = c.requires.regions; carried = carried_start _ _ _ }

pub loop-left-preserved : goal.loop-left-preserved
loop-left-preserved g c =
    let h = c.loop-left.invariant in
    let some = c.loop-left-test.true in
    let next = c.in-Spent.ensures in
    record {
      within = omega (arith, h.within);
      regions = next.regions;
      carried = carried_more c.args.n c.loop-left.left _ _ _ _ _ _ _ h.within (omega arith) h.carried next.ran;
    }

pub returns-in_default : goal.returns-in_default
returns-in_default g c =
    let h = c.loop-left.invariant in
    let some = c.loop-left-test.true in
    let within = h.within in
    let next = c.instruct.ensures in
    record {
      regions = next.regions;
      ran = ran_over c.args.n _ _ _ _ _ _ _ _ (omega arith) c.in_default.not-Spent h.carried next.ran;
    }

pub returns : goal.returns
returns g c =
    let h = c.loop-left.invariant in
    let over = c.loop-left-test.false in
    record { regions = h.regions; ran = ran_all c.args.n _ _ _ _ _ (omega arith) h.carried }
