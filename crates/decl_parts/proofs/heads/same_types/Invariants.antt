use Rattle.std.proofs.Common.{◌≡◌, List, length}
use Rattle.std.specs.Prelude.{map}
use Rattle.nim_types.specs.Types.{Ty, Facts}
use Rattle.expr_parts.specs.View.{Under, ParametersWithin, parameter_of}
use Rattle.decl_rules.specs.Heads.{same_types}
use Rattle.decl_parts.proofs.heads.same_types.Given as goal

abbrev pub invariant-loop-p : goal.invariant-loop-p
invariant-loop-p l = record {
  left : ParametersWithin (length l.types) l.left;
  right : ParametersWithin (length l.types) l.right;
  same : (ts : List Ty) (facts : Facts) → Under l.types ts facts
      → same_types (map (parameter_of ts) l.left) (map (parameter_of ts) l.right) ≡ same_types (map (parameter_of ts) l.ps) (map (parameter_of ts) l.qs);
}

abbrev pub decreases-loop-p : goal.decreases-loop-p
decreases-loop-p l = length l.left
