-- Fields, and calls behind a dot.
use Rattle.std.proofs.Common.{◌≡◌, ℕ, List, Some, None, refl, ap, ◌∙◌}
use Rattle.std.specs.Prelude.{Option, Result, Ok, Err, IfOk, IfErr}
use Rattle.arc_base.specs.declared.place.Place.{Place}
use Rattle.arc_base.specs.declared.place.Stop.{Stop}
use Rattle.arc_base.specs.declared.place.Stop.TheVariants as stop
use Rattle.arc_base.specs.Refusal.{Answers}
use Rattle.nim_types.specs.Types.{Ty}
use Rattle.nim_program.specs.declared.expr.Expr.{Expr as RustExpr}
use Rattle.nim_program.specs.View.{expr_of}
use Rattle.expr_rules.specs.Answers.{Valued, value}
use Rattle.expr_rules.specs.Constructions.{Found, field_named}
use Rattle.expr_rules.specs.Env.{Env}
use Rattle.expr_rules.specs.Names.{default_of_value, field_or_call, field_rule, if_field}
use Rattle.expr_parts.specs.declared.value.Operand.{Operand as RustOperand}
use Rattle.expr_parts.specs.declared.value.Operand.TheVariants as operand
use Rattle.expr_parts.specs.View.{operand_of}
use Rattle.expr_parts.proofs.ForCallers.{forgets}

-- a field that is found is read
pub found_read : (ts : List Ty) (env : Env) (n : ℕ) (at : Place) (x : List ℕ) (v : Valued) (f : Found) (r : Result RustExpr Stop)
    → field_named env x v.of ≡ Some f → IfOk r (λ e. if_field n at v (Some f) ≡ Some (expr_of ts e)) → IfErr r (λ s. s ≡ stop.Memory)
    → Answers (expr_of ts) (field_rule env n at x (value v)) r
found_read ts env n at x v f (Ok e) is h m =
    ap (λ (o : Option Found). field_or_call env n at x (value v) (if_field n at v o)) is ∙ ap (field_or_call env n at x (value v)) h
found_read ts env n at x v f (Err s) is h m = forgets (expr_of ts) (field_rule env n at x (value v)) s m

-- what is no value has no field, and no place before `.default`
pub no_field : (ts : List Ty) (env : Env) (n : ℕ) (at : Place) (x : List ℕ) (o : RustOperand) → ((v : _) → o ≡ operand.Value v → ⊥)
    → field_rule env n at x (operand_of ts o) ≡ field_or_call env n at x (operand_of ts o) None
no_field ts env n at x (operand.Value v) f = absurd (f v refl)
no_field ts env n at x (operand.Open p k) f = refl
no_field ts env n at x (operand.Type t) f = refl
no_field ts env n at x operand.Input f = refl

pub no_default : (ts : List Ty) (x : List ℕ) (o : RustOperand) → ((v : _) → o ≡ operand.Value v → ⊥)
    → default_of_value x (operand_of ts o) ≡ None
no_default ts x (operand.Value v) f = absurd (f v refl)
no_default ts x (operand.Open p k) f = refl
no_default ts x (operand.Type t) f = refl
no_default ts x operand.Input f = refl
