use Rattle.std.proofs.Common.{sym, subst}
use Rattle.number_sets.specs.Numbers.{AreStamped}
use Rattle.number_sets.proofs.Stamping.{stamped_longer}
use Rattle.number_sets.proofs.numbers.make_room.Goals as goal

pub loop-stamps-preserved : goal.loop-stamps-preserved
loop-stamps-preserved c now numbers h =
    subst (λ l. AreStamped now l numbers) (sym c.in_ok-push.ensures.items)
    (stamped_longer now c.loop-stamps.stamps.items numbers (c.loop-stamps.invariant now numbers h))

pub returns-in_err-push-clause-kept : goal.returns-in_err-push-clause-kept
returns-in_err-push-clause-kept c now numbers h =
    subst (λ l. AreStamped now l numbers) (sym c.in_err-push.ensures.items) (c.loop-stamps.invariant now numbers h)
