use Rattle.word_lowering.proofs.WaiterHomes.{next_numbers}
use Rattle.word_lowering.proofs.layouts.put_waiters.Goals as goal

pub behind_waiter-other-requires : goal.behind_waiter-other-requires
behind_waiter-other-requires c =
    let at = c.loop-h in
    next_numbers c.args.all.now at.h-index _ at.free c.loop-h-test.true _ at.invariant.free c.requires.small
