use Rattle.std.proofs.Common.{◌≡◌, List, [], length, Some}
use Rattle.std.specs.Prelude.{map, true}
use Rattle.std.specs.Vec.Iter.{into_iter_items, into_iter_len}
use Rattle.nim_types.specs.Types.{Ty, Facts}
use Rattle.expr_rules.specs.Answers.{Valued}
use Rattle.expr_rules.specs.Env.{Parameter}
use Rattle.expr_rules.specs.Calls.{arguments_by, arguments_for}
use Rattle.expr_parts.specs.View.{Under, ParametersWithin, OperandsWithin, operand_of, parameter_of, do_fit}
use Rattle.expr_parts.proofs.Arguing.{ArgumentsLeft}
use Rattle.expr_parts.proofs.arguments.arguments.Given as goal

abbrev pub invariant-loop-operand : goal.invariant-loop-operand
invariant-loop-operand l = record {
  count : into_iter_len l.operand-iterator ≡ length (into_iter_items l.operand-iterator);
  params : ParametersWithin (length l.types) l.rest;
  operands : OperandsWithin (length l.types) (into_iter_items l.operand-iterator);
  fits : do_fit l.types l.rest (into_iter_items l.operand-iterator) ≡ true;
  left : (ts : List Ty) (facts : Facts) → Under l.types ts facts → (given : List (Parameter × Valued))
      → arguments_for (map (parameter_of ts) l.params) (map (operand_of ts) l.fn.operands.items) ≡ Some given
      → ArgumentsLeft ts l.rest (into_iter_items l.operand-iterator) l.args.items (arguments_by [] given);
}
