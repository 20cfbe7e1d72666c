use Rattle.std.proofs.Common.{◌≡◌, ◌≤◌, ◌+◌, ◌*◌, List, [], drop}
use Rattle.nim_types.specs.Types.{Ty, Facts}
use Rattle.nim_program.specs.View.{expr_of, path_of, operands_of}
use Rattle.expr_rules.specs.Constants.{values_in}
use Rattle.expr_parts.specs.View.{Under}
use Rattle.expr_constants.specs.ViewConstants.{evaluated_of, values_of}
use Rattle.expr_constants.proofs.ConstantLists.{expr_count, path_count, args_count, argument_count, all_before}
use Rattle.expr_constants.proofs.evaluation.+values.Given as goal

abbrev pub decreases-value_in : goal.decreases-value_in
decreases-value_in l = 4 * expr_count (expr_of [] l.expr.now)

abbrev pub decreases-pair_in : goal.decreases-pair_in
decreases-pair_in l = 4 * (expr_count (expr_of [] l.left.now) + expr_count (expr_of [] l.right.now)) + 1

abbrev pub decreases-applied : goal.decreases-applied
decreases-applied l = 4 * args_count (operands_of [] l.operands.now) + 2

abbrev pub decreases-object_in : goal.decreases-object_in
decreases-object_in l = 4 * args_count (operands_of [] l.operands.now) + 2

abbrev pub decreases-value_at : goal.decreases-value_at
decreases-value_at l = 4 * path_count (path_of [] l.path.now)

abbrev pub decreases-value_of : goal.decreases-value_of
decreases-value_of l = 4 * argument_count l.operand.now + 1

abbrev pub decreases-values_in : goal.decreases-values_in
decreases-values_in l = 4 * args_count (operands_of [] l.operands.now) + 1

abbrev pub invariant-values_in-loop-operand : goal.invariant-values_in-loop-operand
invariant-values_in-loop-operand l = record {
  light : args_count (operands_of [] (drop l.operand-index l.operands)) ≤ args_count (operands_of [] l.fn.operands);
  same : (ts : List Ty) (facts : Facts) → Under l.types ts facts
      → all_before (evaluated_of values_of l.done) (values_in facts (operands_of ts (drop l.operand-index l.operands)))
      ≡ values_in facts (operands_of ts l.fn.operands);
}
