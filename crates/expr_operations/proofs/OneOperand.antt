-- Operations of one operand alone.
use Rattle.std.proofs.Common.{◌≡◌, ℕ, List, [], ◌∷◌, refl, None}
use Rattle.std.specs.Prelude.{map}
use Rattle.arc_base.specs.declared.place.Place.{Place}
use Rattle.nim_types.specs.Types.{Ty}
use Rattle.expr_parts.specs.declared.value.Operand.{Operand as RustOperand}
use Rattle.expr_rules.specs.Answers.{not_typed}
use Rattle.expr_rules.specs.Names.{new_sequence_rule}
use Rattle.expr_parts.specs.View.{operand_of, no_fit_at}
use Rattle.expr_parts.specs.ViewOperands.{IsOnly}
use Rattle.expr_parts.proofs.ForCallers.{no_fit_is}

-- `newSeq` of another number of operands than one
pub not_one : (ts : List Ty) (n : ℕ) (at : Place) (t : Ty) (os : List RustOperand) → IsOnly os None
    → new_sequence_rule n at t (map (operand_of ts) os) ≡ not_typed (no_fit_at at os)
not_one ts n at t [] h = refl
not_one ts n at t (o ∷ []) h = absurd (h o refl)
not_one ts n at t (o ∷ p ∷ os) h = no_fit_is ts at (o ∷ p ∷ os)
