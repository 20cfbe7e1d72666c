-- Operands, by their number. It serves the proofs of the code alone.
use Rattle.std.specs.Prelude.{◌≡◌, ◌<◌, List, [], ◌∷◌, length, Option, Some, None}
use Rattle.expr_parts.specs.declared.value.Operand.{Operand}
use Rattle.expr_parts.specs.declared.operand_lists.Given.{Given}
use Rattle.expr_parts.specs.declared.operand_lists.Given.TheVariants as given

-- operands, by their number
abbrev pub IsGiven : List Operand → Given → Type 0
IsGiven os given.Nothing = os ≡ []
IsGiven os (given.One o) = os ≡ o ∷ []
IsGiven os (given.Two a b) = os ≡ a ∷ b ∷ []
IsGiven os given.More = 2 < length os

-- the only one of the operands, where there is no other
abbrev pub IsOnly : List Operand → Option Operand → Type 0
IsOnly os (Some o) = os ≡ o ∷ []
IsOnly os None = (o : Operand) → os ≡ o ∷ [] → ⊥
