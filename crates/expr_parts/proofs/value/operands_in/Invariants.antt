use Rattle.std.proofs.Common.{◌≡◌, ◌++◌}
use Rattle.std.specs.Prelude.{map}
use Rattle.expr_parts.specs.View.{handed_on}
use Rattle.expr_parts.proofs.value.operands_in.Given as goal

abbrev pub invariant-loop-value : goal.invariant-loop-value
invariant-loop-value l = l.operands.items ++ map handed_on l.value-iterator.rest.items ≡ map handed_on l.fn.values.items
