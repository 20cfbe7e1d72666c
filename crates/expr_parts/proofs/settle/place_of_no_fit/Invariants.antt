use Rattle.std.proofs.Common.{◌≡◌, drop}
use Rattle.expr_parts.specs.View.{no_fit_at}
use Rattle.expr_parts.proofs.settle.place_of_no_fit.Given as goal

abbrev pub invariant-loop-operand : goal.invariant-loop-operand
invariant-loop-operand l = no_fit_at l.at (drop l.operand-index l.operands) ≡ no_fit_at l.at l.operands
