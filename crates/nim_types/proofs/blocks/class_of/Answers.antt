use Rattle.std.proofs.Common.{arith}
use Rattle.nim_types.proofs.Powers.{first_tried, next_tried}
use Rattle.nim_types.proofs.blocks.class_of.Goals as goal

pub loop-size-init : goal.loop-size-init
loop-size-init c = first_tried c.saturating_add-need.result (omega arith)

pub loop-size-preserved : goal.loop-size-preserved
loop-size-preserved c = next_tried c.saturating_add-need.result c.loop-size.size c.loop-size.invariant (omega arith)
