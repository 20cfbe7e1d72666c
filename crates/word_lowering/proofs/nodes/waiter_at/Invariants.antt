use Rattle.std.proofs.Common.{◌≡◌, drop}
use Rattle.word_lowering.specs.WaitingCode.{waiter_at}
use Rattle.word_lowering.proofs.nodes.waiter_at.Given as goal

-- it is none of those that were passed
abbrev pub invariant-loop-w : goal.invariant-loop-w
invariant-loop-w l = waiter_at l.node (drop l.w-index l.all) ≡ waiter_at l.node l.all
