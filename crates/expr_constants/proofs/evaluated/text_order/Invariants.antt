use Rattle.std.proofs.Common.{◌≡◌, length}
use Rattle.expr_rules.specs.Constants.{text_order}
use Rattle.expr_constants.proofs.evaluated.text_order.Given as goal

abbrev pub invariant-loop-x : goal.invariant-loop-x
invariant-loop-x l = text_order l.left l.right ≡ text_order l.a l.b

abbrev pub decreases-loop-x : goal.decreases-loop-x
decreases-loop-x l = length l.left
