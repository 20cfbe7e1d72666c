-- Calls that make an expression, or find no memory.
use Rattle.std.proofs.Common.{◌≡◌, ℕ, List, sym, ap, ◌∙◌, subst}
use Rattle.std.specs.Prelude.{Option, Result, Ok, Err, IfOk, IfErr}
use Rattle.arc_base.specs.declared.place.Stop.{Stop}
use Rattle.arc_base.specs.declared.place.Stop.TheVariants as stop
use Rattle.arc_base.specs.Refusal.{Answers}
use Rattle.nim_types.specs.Types.{Ty}
use Rattle.nim_types.specs.Table.{IsBelow}
use Rattle.nim_program.specs.declared.expr.Expr.{Expr as RustExpr}
use Rattle.nim_program.specs.Program.{Expr}
use Rattle.nim_program.specs.View.{expr_of}
use Rattle.expr_rules.specs.Answers.{Answer}
use Rattle.arc_base.proofs.ForCallers.{forgets}
use Rattle.expr_parts.specs.View.{number_of}

-- what is said to be an expression is answered by the call that makes it
pub made_as : (ts : List Ty) (said : Answer Expr) (x : List Ty → Expr) (r : Result RustExpr Stop) → said ≡ Ok (x ts)
    → IfOk r (λ e. (ts : List Ty) → expr_of ts e ≡ x ts) → IfErr r (λ s. s ≡ stop.Memory) → Answers (expr_of ts) said r
made_as ts said x (Ok e) is h m = is ∙ ap Ok (sym (h ts))
made_as ts said x (Err s) is h m = forgets (expr_of ts) said s m

-- its type is of the table
pub below_as : (n : ℕ) (id : Option ℕ) (r : Result RustExpr Stop) → IsBelow n id → IfOk r (λ e. number_of e ≡ id) → IfOk r (λ e. IsBelow n (number_of e))
below_as n id (Ok e) b h = subst (IsBelow n) (sym h) b
below_as n id (Err s) b h = tt
