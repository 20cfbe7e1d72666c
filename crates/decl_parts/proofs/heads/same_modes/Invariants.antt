use Rattle.std.proofs.Common.{◌≡◌, List, length}
use Rattle.std.specs.Prelude.{map}
use Rattle.nim_types.specs.Types.{Ty}
use Rattle.expr_parts.specs.View.{parameter_of}
use Rattle.decl_rules.specs.Heads.{same_modes}
use Rattle.decl_parts.proofs.heads.same_modes.Given as goal

abbrev pub invariant-loop-p : goal.invariant-loop-p
invariant-loop-p l = (ts : List Ty) → same_modes (map (parameter_of ts) l.left) (map (parameter_of ts) l.right)
    ≡ same_modes (map (parameter_of ts) l.ps) (map (parameter_of ts) l.qs)

abbrev pub decreases-loop-p : goal.decreases-loop-p
decreases-loop-p l = length l.left
