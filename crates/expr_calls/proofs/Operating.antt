-- Operators that aren't built in, and operands that are open.
use Rattle.std.proofs.Common.{◌≡◌, ℕ, suc, ◌<◌, List, [], ◌∷◌, length, refl, Some, None, sym, ap, ◌∙◌, subst, arith}
use Rattle.std.specs.Prelude.{true, false, map, Option, Result}
use Rattle.std.proofs.lemmas.Bool.{both_ways}
use Rattle.std.proofs.lemmas.Option.{none-some, same_Some}
use Rattle.arc_base.specs.declared.place.Place.{Place}
use Rattle.arc_base.specs.declared.place.Stop.{Stop}
use Rattle.arc_base.specs.Refusal.{Answers}
use Rattle.nim_tree.specs.declared.expr.BinaryOp.{BinaryOp}
use Rattle.nim_tree.specs.declared.expr.BinaryOp.TheVariants as sign
use Rattle.nim_types.specs.Types.{Ty}
use Rattle.nim_types.specs.Table.{type_at}
use Rattle.nim_program.specs.declared.operation.Comparison.{Comparison}
use Rattle.nim_program.specs.declared.expr.Expr.{Expr as RustExpr}
use Rattle.nim_program.specs.Program.{Expr}
use Rattle.nim_program.specs.View.{expr_of}
use Rattle.expr_parts.specs.declared.scope.Parameter.{Parameter as RustParameter}
use Rattle.expr_parts.specs.declared.value.Operand.{Operand as RustOperand}
use Rattle.expr_parts.specs.declared.value.Operand.TheVariants as operand
use Rattle.expr_parts.specs.declared.operators.Meaning.{Meaning}
use Rattle.expr_parts.specs.declared.operators.Meaning.TheVariants as meaning
use Rattle.expr_rules.specs.Answers.{Answer, not_typed, settled, Valued, Operand, value, open_sequence, a_type, the_input}
use Rattle.expr_rules.specs.Calls.{arguments_for, borrowed_call}
use Rattle.expr_rules.specs.Env.{Env, Parameter}
use Rattle.expr_rules.specs.Operators.{binary_rule, borrowed_name, is_comparison}
use Rattle.expr_parts.specs.View.{operand_of, parameter_of, HasMeaning}
use Rattle.expr_parts.proofs.ForCallers.{opened, nothing_left}

-- only comparisons may be borrowed
pub not_borrowed : (op : BinaryOp) → is_comparison op ≡ false → borrowed_name op ≡ None
not_borrowed sign.Equal h = absurd (both_ways true h refl)
not_borrowed sign.Unequal h = absurd (both_ways true h refl)
not_borrowed sign.Less h = absurd (both_ways true h refl)
not_borrowed sign.AtMost h = absurd (both_ways true h refl)
not_borrowed sign.Greater h = absurd (both_ways true h refl)
not_borrowed sign.AtLeast h = absurd (both_ways true h refl)
not_borrowed sign.Plus h = refl
not_borrowed sign.Minus h = refl
not_borrowed sign.Times h = refl
not_borrowed sign.Div h = refl
not_borrowed sign.Mod h = refl
not_borrowed sign.Shl h = refl
not_borrowed sign.Shr h = refl
not_borrowed sign.And h = refl
not_borrowed sign.Or h = refl
not_borrowed sign.Xor h = refl
not_borrowed sign.Join h = refl

-- the others have no name
pub unnamed : (op : BinaryOp) (x : List ℕ) → (op ≡ sign.Equal → ⊥) → (op ≡ sign.Unequal → ⊥) → (op ≡ sign.Less → ⊥)
    → (op ≡ sign.AtMost → ⊥) → (op ≡ sign.Greater → ⊥) → (op ≡ sign.AtLeast → ⊥) → is_comparison op ≡ true
    → borrowed_name op ≡ Some x
unnamed op x a b d e f g h = absurd (both_ways (is_comparison op) (others op a b d e f g) h)
  where
    others : (op : BinaryOp) → (op ≡ sign.Equal → ⊥) → (op ≡ sign.Unequal → ⊥) → (op ≡ sign.Less → ⊥) → (op ≡ sign.AtMost → ⊥)
        → (op ≡ sign.Greater → ⊥) → (op ≡ sign.AtLeast → ⊥) → is_comparison op ≡ false
    others sign.Equal a b d e f g = absurd (a refl)
    others sign.Unequal a b d e f g = absurd (b refl)
    others sign.Less a b d e f g = absurd (d refl)
    others sign.AtMost a b d e f g = absurd (e refl)
    others sign.Greater a b d e f g = absurd (f refl)
    others sign.AtLeast a b d e f g = absurd (g refl)
    others sign.Plus a b d e f g = refl
    others sign.Minus a b d e f g = refl
    others sign.Times a b d e f g = refl
    others sign.Div a b d e f g = refl
    others sign.Mod a b d e f g = refl
    others sign.Shl a b d e f g = refl
    others sign.Shr a b d e f g = refl
    others sign.And a b d e f g = refl
    others sign.Or a b d e f g = refl
    others sign.Xor a b d e f g = refl
    others sign.Join a b d e f g = refl

pub means_other : (m : Meaning) → (m ≡ meaning.Nothing → ⊥) → HasMeaning m
means_other (meaning.Computes o) f = tt
means_other (meaning.StopsEarly s) f = tt
means_other meaning.Joins f = tt
means_other (meaning.Compares c) f = tt
means_other meaning.Nothing f = absurd (f refl)

-- ---- operands that are no values

pub typeless_behind : (ts : List Ty) (env : Env) (n : ℕ) (at : Place) (op : BinaryOp) (v : Valued) (o : RustOperand)
    → ((w : _) → o ≡ operand.Value w → ⊥) → ((p : _) (k : _) → o ≡ operand.Open p k → ⊥)
    → binary_rule env n at op (value v) (operand_of ts o) ≡ not_typed at
typeless_behind ts env n at op v (operand.Value w) f g = absurd (f w refl)
typeless_behind ts env n at op v (operand.Open p k) f g = absurd (g p k refl)
typeless_behind ts env n at op v (operand.Type t) f g = refl
typeless_behind ts env n at op v operand.Input f g = refl

pub open_alone : (ts : List Ty) (env : Env) (n : ℕ) (at : Place) (op : BinaryOp) (p : Place) (m : ℕ) (o : RustOperand)
    → ((w : _) → o ≡ operand.Value w → ⊥) → binary_rule env n at op (open_sequence p m) (operand_of ts o) ≡ not_typed p
open_alone ts env n at op p m (operand.Value w) f = absurd (f w refl)
open_alone ts env n at op p m (operand.Open q k) f = refl
open_alone ts env n at op p m (operand.Type t) f = refl
open_alone ts env n at op p m operand.Input f = refl

type_before : (env : Env) (n : ℕ) (at : Place) (op : BinaryOp) (t : Ty) (o : Operand) → binary_rule env n at op (a_type t) o ≡ not_typed at
type_before env n at op t (value v) = refl
type_before env n at op t (open_sequence p k) = refl
type_before env n at op t (a_type s) = refl
type_before env n at op t the_input = refl

input_before : (env : Env) (n : ℕ) (at : Place) (op : BinaryOp) (o : Operand) → binary_rule env n at op the_input o ≡ not_typed at
input_before env n at op (value v) = refl
input_before env n at op (open_sequence p k) = refl
input_before env n at op (a_type s) = refl
input_before env n at op the_input = refl

pub typeless_before : (ts : List Ty) (env : Env) (n : ℕ) (at : Place) (op : BinaryOp) (o : RustOperand) (r : Operand)
    → ((w : _) → o ≡ operand.Value w → ⊥) → ((p : _) (k : _) → o ≡ operand.Open p k → ⊥)
    → binary_rule env n at op (operand_of ts o) r ≡ not_typed at
typeless_before ts env n at op (operand.Value w) r f g = absurd (f w refl)
typeless_before ts env n at op (operand.Open p k) r f g = absurd (g p k refl)
typeless_before ts env n at op (operand.Type t) r f g = type_before env n at op (type_at ts t) r
typeless_before ts env n at op operand.Input r f g = input_before env n at op r

-- ---- borrowed operations

none_given : (ts : List Ty) (ps : List RustParameter) (rest : List (Parameter × Valued)) → arguments_for (map (parameter_of ts) ps) [] ≡ Some rest
    → rest ≡ []
none_given ts [] rest h = sym (same_Some [] rest h)
none_given ts (p ∷ ps) rest h = absurd (none-some rest h)

-- behind the first operand, and where it is the last one
pub first_borrowed_of : (ts : List Ty) (p : RustParameter) (ps : List RustParameter) (o : RustOperand) (os : List RustOperand)
    (given : List (Parameter × Valued)) (w : Valued) (said : List (Parameter × Valued) → Answer Expr) (r : Result RustExpr Stop)
    → arguments_for (map (parameter_of ts) (p ∷ ps)) (map (operand_of ts) (o ∷ os)) ≡ Some given
    → settled (type_at ts p.ty) (operand_of ts o) ≡ Some w
    → ((more : List (Parameter × Valued)) → arguments_for (map (parameter_of ts) ps) (map (operand_of ts) os) ≡ Some more
    → Answers (expr_of ts) (said ((parameter_of ts p, w) ∷ more)) r)
    → Answers (expr_of ts) (said given) r
first_borrowed_of ts p ps o os given w said r h e k =
    let f = opened ts p ps o os given h in
    let v : f.first ≡ w = same_Some f.first w (sym f.is ∙ e) in
    let all : given ≡ (parameter_of ts p, w) ∷ f.more = sym f.all ∙ ap (λ x. (parameter_of ts p, x) ∷ f.more) v in
    subst (λ (g : List (Parameter × Valued)). Answers (expr_of ts) (said g) r) (sym all) (k f.more f.are)

pub last_borrowed_of : (ts : List Ty) (p : RustParameter) (ps : List RustParameter) (o : RustOperand) (given : List (Parameter × Valued)) (w : Valued)
    (said : List (Parameter × Valued) → Answer Expr) (r : Result RustExpr Stop)
    → arguments_for (map (parameter_of ts) (p ∷ ps)) (operand_of ts o ∷ []) ≡ Some given
    → settled (type_at ts p.ty) (operand_of ts o) ≡ Some w
    → Answers (expr_of ts) (said ((parameter_of ts p, w) ∷ [])) r → Answers (expr_of ts) (said given) r
last_borrowed_of ts p ps o given w said r h e k =
    first_borrowed_of ts p ps o [] given w said r h e
    (λ more m. subst (λ (g : List (Parameter × Valued)). Answers (expr_of ts) (said ((parameter_of ts p, w) ∷ g)) r) (sym (none_given ts ps more m)) k)

-- as many arguments as operands
counted : (ts : List Ty) (ps : List RustParameter) (os : List RustOperand) (given : List (Parameter × Valued))
    → arguments_for (map (parameter_of ts) ps) (map (operand_of ts) os) ≡ Some given → length given ≡ length os
counted ts [] [] given h = ap length (sym (same_Some [] given h))
counted ts [] (o ∷ os) given h = absurd (none-some given h)
counted ts (p ∷ ps) [] given h = absurd (none-some given h)
counted ts (p ∷ ps) (o ∷ os) given h =
    let f = opened ts p ps o os given h in
    ap length (sym f.all) ∙ ap suc (counted ts ps os f.more f.are)

none_borrowed : (n : ℕ) (at : Place) (c : Option Comparison) → borrowed_call n at c [] ≡ not_typed at
none_borrowed n at None = refl
none_borrowed n at (Some c) = refl

many_borrowed : (n : ℕ) (at : Place) (c : Option Comparison) (given : List (Parameter × Valued)) → 2 < length given
    → borrowed_call n at c given ≡ not_typed at
many_borrowed n at c [] h = absurd (omega (arith, h))
many_borrowed n at c (a ∷ []) h = absurd (omega (arith, h))
many_borrowed n at c (a ∷ b ∷ []) h = absurd (omega (arith, h))
many_borrowed n at None (a ∷ b ∷ d ∷ rest) h = refl
many_borrowed n at (Some c) (a ∷ b ∷ d ∷ rest) h = refl

-- on no operand, and on more than two
pub nothing_borrowed : (ts : List Ty) (n : ℕ) (at : Place) (c : Option Comparison) (ps : List RustParameter) (os : List RustOperand)
    (given : List (Parameter × Valued)) → arguments_for (map (parameter_of ts) ps) (map (operand_of ts) os) ≡ Some given → os ≡ []
    → borrowed_call n at c given ≡ not_typed at
nothing_borrowed ts n at c ps os given h e =
    ap (borrowed_call n at c) (nothing_left given (counted ts ps os given h ∙ ap length e)) ∙ none_borrowed n at c

pub more_borrowed : (ts : List Ty) (n : ℕ) (at : Place) (c : Option Comparison) (ps : List RustParameter) (os : List RustOperand)
    (given : List (Parameter × Valued)) → arguments_for (map (parameter_of ts) ps) (map (operand_of ts) os) ≡ Some given → 2 < length os
    → borrowed_call n at c given ≡ not_typed at
more_borrowed ts n at c ps os given h m = many_borrowed n at c given (subst (λ k. 2 < k) (sym (counted ts ps os given h)) m)
