-- Operands one behind another, and the parts of branches before others.
use Rattle.std.proofs.Common.{◌≡◌, List, [], ◌∷◌, ◌++◌, refl, ap}
use Rattle.nim_types.specs.Types.{Ty}
use Rattle.nim_program.specs.declared.expr.Operand.{Operand as RustArgument}
use Rattle.nim_program.specs.declared.expr.Operand.TheVariants as argument
use Rattle.nim_program.specs.declared.expr.Choice.{Choice as RustChoice}
use Rattle.nim_program.specs.declared.expr.Pick.{Pick as RustPick}
use Rattle.nim_program.specs.Nodes.{followed_by}
use Rattle.nim_program.specs.Program.{Args, NoArg, ByValue, ByPath}
use Rattle.nim_program.specs.View.{expr_of, path_of, operand_before, operands_of, choices_of, picks_of}

module _ (ts : List Ty) where
  -- one operand before others
  pub one_before : (a : RustArgument) (rest : Args) → followed_by (operand_before ts a NoArg) rest ≡ operand_before ts a rest
  one_before (argument.Value e) rest = refl
  one_before (argument.At p) rest = refl

  -- operands and one more
  pub operands_last : (all : List RustArgument) (a : RustArgument)
      → operands_of ts (all ++ a ∷ []) ≡ followed_by (operands_of ts all) (operand_before ts a NoArg)
  operands_last [] a = refl
  operands_last (argument.Value e ∷ all) a = ap (ByValue (expr_of ts e)) (operands_last all a)
  operands_last (argument.At p ∷ all) a = ap (ByPath (path_of ts p)) (operands_last all a)

  pub choices_before : (all : List RustChoice) (rest : Args) → choices_of ts all rest ≡ followed_by (choices_of ts all NoArg) rest
  choices_before [] rest = refl
  choices_before (x ∷ all) rest = ap (λ z. ByValue (expr_of ts x.condition) (ByValue (expr_of ts x.value) z)) (choices_before all rest)

  pub picks_before : (all : List RustPick) (rest : Args) → picks_of ts all rest ≡ followed_by (picks_of ts all NoArg) rest
  picks_before [] rest = refl
  picks_before (x ∷ all) rest = ap (ByValue (expr_of ts x.value)) (picks_before all rest)
