use Rattle.nim_types.proofs.Slots.{Ahead, up_to}
use Rattle.nim_types.proofs.index.Index.find.Given as goal

abbrev pub invariant-loop-next : goal.invariant-loop-next
invariant-loop-next l = Ahead l.defs l.self.nexts.items l.def l.next

abbrev pub decreases-loop-next : goal.decreases-loop-next
decreases-loop-next l = up_to l.next
