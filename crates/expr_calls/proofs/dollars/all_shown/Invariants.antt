use Rattle.std.proofs.Common.{◌≡◌, List, length}
use Rattle.std.specs.Prelude.{map}
use Rattle.std.specs.Vec.Iter.{into_iter_items, into_iter_len}
use Rattle.nim_types.specs.Types.{Ty, Facts}
use Rattle.expr_rules.specs.Names.{all_shown}
use Rattle.expr_parts.specs.View.{Under, OperandsWithin, operand_of, env_of}
use Rattle.expr_calls.specs.ViewCalls.{shown_by}
use Rattle.expr_calls.proofs.Echoing.{shown_behind}
use Rattle.expr_calls.proofs.dollars.all_shown.Given as goal

abbrev pub invariant-loop-operand : goal.invariant-loop-operand
invariant-loop-operand l = record {
  count : into_iter_len l.operand-iterator ≡ length (into_iter_items l.operand-iterator);
  operands : OperandsWithin (length l.types) (into_iter_items l.operand-iterator);
  left : (ts : List Ty) (facts : Facts) → Under l.types ts facts
      → shown_by l.place (all_shown (env_of ts facts l.scope) (map (operand_of ts) l.fn.operands.items))
      ≡ shown_behind ts l.shown.items l.place (all_shown (env_of ts facts l.scope) (map (operand_of ts) (into_iter_items l.operand-iterator)));
}
