-- Operands by their positions, and one after another.
use Rattle.std.proofs.Common.{◌≡◌, ℕ, zero, suc, ◌<◌, ◌≤◌, List, [], ◌∷◌, length, get_or, refl, ap, arith}
use Rattle.flat_code.specs.declared.line.From.{From}
use Rattle.word_lowering.specs.Layouts.{nowhere}
use Rattle.word_lowering.specs.LineCode.{Around, operand, operands, operand_at}

module _ (x : Around) where
  pub operand_there : (from : List From) (i : ℕ) (d f : From) → i < length from → f ≡ get_or from i d → operand x f ≡ operand_at (operands x from) i
  operand_there [] i d f lt e = absurd (omega (arith, lt))
  operand_there (g ∷ from) zero d f lt e = ap (operand x) e
  operand_there (g ∷ from) (suc i) d f lt e = operand_there from i d f (omega (arith, lt)) e

  pub operand_lacks : (from : List From) (i : ℕ) → length from ≤ i → nowhere ≡ operand_at (operands x from) i
  operand_lacks [] i le = refl
  operand_lacks (g ∷ from) zero le = absurd (omega (arith, le))
  operand_lacks (g ∷ from) (suc i) le = operand_lacks from i (omega (arith, le))

  pub operands_length : (from : List From) → length (operands x from) ≡ length from
  operands_length [] = refl
  operands_length (f ∷ from) = ap suc (operands_length from)
