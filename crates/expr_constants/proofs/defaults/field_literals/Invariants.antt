use Rattle.std.proofs.Common.{◌≡◌, List, take, length}
use Rattle.nim_types.specs.Types.{Ty, Facts}
use Rattle.nim_program.specs.View.{literals_of}
use Rattle.expr_parts.specs.View.{Under}
use Rattle.expr_rules.specs.Constants.{with_values}
use Rattle.expr_constants.specs.ViewConstants.{field_values}
use Rattle.expr_constants.proofs.defaults.field_literals.Given as goal

abbrev pub invariant-loop-i : goal.invariant-loop-i
invariant-loop-i l = record {
  end : l.i-end ≡ length l.parts;
  same : (ts : List Ty) (facts : Facts) → Under l.types ts facts
      → literals_of l.all.items ≡ field_values facts ts 0 (take l.i l.parts) (with_values l.fields (literals_of l.values));
}
