use Rattle.std.proofs.Common.{◌-◌}
use Rattle.nim_types.specs.declared.blocks.TheConstants.{MOST_BLOCK}
use Rattle.nim_types.proofs.Powers.{Tried}
use Rattle.nim_types.proofs.blocks.class_of.Given as goal

abbrev pub invariant-loop-size : goal.invariant-loop-size
invariant-loop-size l = Tried l.need l.size

abbrev pub decreases-loop-size : goal.decreases-loop-size
decreases-loop-size l = MOST_BLOCK - l.size
