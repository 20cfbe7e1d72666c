-- What calls by name look up and take apart. It serves the proofs of the code alone.
use Rattle.std.specs.Prelude.{◌≡◌, Bool, true, false, List, [], ◌∷◌, Option, Some, None, Ok}
use Rattle.arc_base.specs.declared.place.Place.{Place}
use Rattle.nim_types.specs.Types.{Ty}
use Rattle.nim_program.specs.Program.{Args}
use Rattle.nim_program.specs.View.{expr_of}
use Rattle.nim_program.specs.declared.expr.Expr.{Expr as RustExpr}
use Rattle.expr_parts.specs.declared.operators.Meaning.{Meaning}
use Rattle.expr_parts.specs.declared.operators.Meaning.TheVariants as meaning
use Rattle.expr_rules.specs.Answers.{Answer, not_typed, Valued, Operand, value, exprs_of}
use Rattle.expr_rules.specs.Calls.{Fit}
use Rattle.expr_rules.specs.Env.{Env}
use Rattle.expr_rules.specs.Names.{all_shown, can_show}
use Rattle.expr_parts.specs.View.{HasMeaning}

-- ---- `$`

-- whether the first that fits is borrowed
abbrev pub first_borrowed : List Fit → Option Bool
first_borrowed [] = None
first_borrowed (fit ∷ rest) = Some fit.callee.borrowed

-- what `echo` shows of an operand
abbrev pub IsShown : List Ty → Env → Operand → Option RustExpr → Type 0
IsShown ts env o (Some e) = (v : Valued) × (o ≡ value v) × (can_show env v ≡ true) × (expr_of ts e ≡ v.expr)
IsShown ts env o None = (rest : List Operand) → all_shown env (o ∷ rest) ≡ None

-- what is shown, as operands, where each can be
abbrev pub shown_by : Place → Option (List Valued) → Answer Args
shown_by at (Some vs) = Ok (exprs_of vs)
shown_by at None = not_typed at

-- ---- operators

-- whether it is built in
abbrev pub IfMeaning : Meaning → Bool → Type 0
IfMeaning m true = HasMeaning m
IfMeaning m false = m ≡ meaning.Nothing
