-- What `echo` shows.
use Rattle.std.proofs.Common.{◌≡◌, ℕ, ◌<◌, List, [], ◌∷◌, ◌++◌, length, Some, None, refl, sym, ap, ◌∙◌, arith}
use Rattle.std.specs.Prelude.{Bool, true, false, not, is_some, Option, map, Ok}
use Rattle.arc_base.specs.declared.place.Place.{Place}
use Rattle.arc_base.specs.declared.place.Code.TheVariants.{NotTyped}
use Rattle.arc_base.specs.Refusal.{and_then, refused}
use Rattle.nim_types.specs.Types.{Ty, same}
use Rattle.nim_types.specs.Table.{type_at}
use Rattle.nim_program.specs.Program.{ByValue, NoArg, Args}
use Rattle.nim_program.specs.Nodes.{echo}
use Rattle.nim_program.specs.View.{expr_of, operand_before, operands_of}
use Rattle.nim_program.specs.declared.expr.Expr.{Expr as RustExpr}
use Rattle.nim_program.specs.declared.expr.Operand.{Operand as RustArgument}
use Rattle.nim_program.specs.declared.expr.Operand.TheVariants as argument
use Rattle.expr_parts.specs.declared.scope.Parameter.{Parameter as RustParameter}
use Rattle.expr_parts.specs.declared.value.Operand.{Operand as RustOperand}
use Rattle.expr_rules.specs.Answers.{Answer, not_typed, node, only_if, settled, Valued, Operand, value, exprs_of}
use Rattle.expr_rules.specs.Env.{Env, Parameter}
use Rattle.expr_rules.specs.Calls.{Fit, arguments_for, onto}
use Rattle.expr_rules.specs.Names.{is_called, some_fits, all_shown, shown_before, can_show, echo_by, echo_rule}
use Rattle.expr_parts.specs.View.{operand_of, parameter_of, no_fit_at}
use Rattle.expr_calls.specs.ViewCalls.{first_borrowed, IsShown, shown_by}
use Rattle.expr_parts.proofs.ForCallers.{no_fit_is}

-- ---- `$` of one's own

-- what parameters take a value alone
none_passed : (ts : List Ty) (ps : List RustParameter) → 0 < length ps → arguments_for (map (parameter_of ts) ps) [] ≡ None
none_passed ts [] h = absurd (omega (arith, h))
none_passed ts (p ∷ ps) h = refl

onto_none : (p : Parameter) (o : Option Valued) → is_some (onto p o None) ≡ false
onto_none p (Some v) = refl
onto_none p None = refl

pub two_taken : (ts : List Ty) (p : RustParameter) (ps : List RustParameter) (v : Valued) → 0 < length ps
    → is_some (arguments_for (map (parameter_of ts) (p ∷ ps)) (value v ∷ [])) ≡ false
two_taken ts p ps v h =
    let o = settled (type_at ts p.ty) (value v) in
    ap (λ rest. is_some (onto (parameter_of ts p) o rest)) (none_passed ts ps h) ∙ onto_none (parameter_of ts p) o

onto_one : (p : Parameter) (v : Valued) (b : Bool) → is_some (onto p (only_if b v) (Some [])) ≡ b
onto_one p v true = refl
onto_one p v false = refl

pub one_taken : (ts : List Ty) (p : RustParameter) (ps : List RustParameter) (v : Valued) (b : Bool) → ps ≡ [] → same (type_at ts p.ty) v.of ≡ b
    → is_some (arguments_for (map (parameter_of ts) (p ∷ ps)) (value v ∷ [])) ≡ b
one_taken ts p ps v b none e =
    ap (λ qs. is_some (arguments_for (map (parameter_of ts) (p ∷ qs)) (value v ∷ []))) none
    ∙ ap (λ c. is_some (onto (parameter_of ts p) (only_if c v) (Some []))) e ∙ onto_one (parameter_of ts p) v b

pub called_some : (all : List Fit) (b : Bool) → first_borrowed all ≡ Some b → is_called all ≡ not b
called_some [] b e = cc
called_some (fit ∷ all) b e = by_first fit.callee.borrowed b e
  where
    by_first : (a b : Bool) → Some a ≡ Some b → not a ≡ not b
    by_first true true e = refl
    by_first false false e = refl
    by_first true false e = cc
    by_first false true e = cc

pub called_none : (all : List Fit) → first_borrowed all ≡ None → is_called all ≡ false
called_none [] e = refl
called_none (fit ∷ all) e = cc

pub some_first : (all : List Fit) → some_fits all ≡ is_some (first_borrowed all)
some_first [] = refl
some_first (fit ∷ all) = refl

-- ---- what `echo` shows

-- operands before others
abbrev pub args_front : List Ty → List RustArgument → Args → Args
args_front ts [] rest = rest
args_front ts (a ∷ all) rest = operand_before ts a (args_front ts all rest)

abbrev pub shown_behind : List Ty → List RustArgument → Place → Option (List Valued) → Answer Args
shown_behind ts done at None = not_typed at
shown_behind ts done at (Some vs) = Ok (args_front ts done (exprs_of vs))

pub none_before : (ts : List Ty) (at : Place) (o : Option (List Valued)) → shown_by at o ≡ shown_behind ts [] at o
none_before ts at None = refl
none_before ts at (Some vs) = refl

front_last : (ts : List Ty) (done : List RustArgument) (e : RustExpr) (rest : Args)
    → args_front ts done (ByValue (expr_of ts e) rest) ≡ args_front ts (done ++ argument.Value e ∷ []) rest
front_last ts [] e rest = refl
front_last ts (a ∷ done) e rest = ap (operand_before ts a) (front_last ts done e rest)

one_before : (ts : List Ty) (done : List RustArgument) (at : Place) (v : Valued) (e : RustExpr) (o : Option (List Valued)) → expr_of ts e ≡ v.expr
    → shown_behind ts done at (shown_before true v o) ≡ shown_behind ts (done ++ argument.Value e ∷ []) at o
one_before ts done at v e (Some vs) h =
    ap (λ x. Ok (args_front ts done (ByValue x (exprs_of vs)))) (sym h) ∙ ap Ok (front_last ts done e (exprs_of vs))
one_before ts done at v e None h = refl

-- one more
pub one_shown : (ts : List Ty) (env : Env) (done : List RustArgument) (at : Place) (o : Operand) (os : List Operand) (e : RustExpr)
    → IsShown ts env o (Some e)
    → shown_behind ts done at (all_shown env (o ∷ os)) ≡ shown_behind ts (done ++ argument.Value e ∷ []) at (all_shown env os)
one_shown ts env done at o os e h =
    ap (λ x. shown_behind ts done at (all_shown env (x ∷ os))) h.1
    ∙ ap (λ b. shown_behind ts done at (shown_before b h.0 (all_shown env os))) h.2
    ∙ one_before ts done at h.0 e (all_shown env os) h.3

front_all : (ts : List Ty) (done : List RustArgument) → args_front ts done NoArg ≡ operands_of ts done
front_all ts [] = refl
front_all ts (a ∷ done) = ap (operand_before ts a) (front_all ts done)

-- all
pub shown_all : (ts : List Ty) (env : Env) (done : List RustArgument) (at : Place)
    → shown_behind ts done at (all_shown env []) ≡ Ok (operands_of ts done)
shown_all ts env done at = ap Ok (front_all ts done)

-- an operand that is a value
pub value_shown : (ts : List Ty) (env : Env) (v : Valued) (e : RustExpr) (b : Bool) → can_show env v ≡ b → expr_of ts e ≡ v.expr
    → IsShown ts env (value v) (only_if b e)
value_shown ts env v e true h s = (v, refl, h, s)
value_shown ts env v e false h s = λ rest. ap (λ b. shown_before b v (all_shown env rest)) h

-- `echo` of what is shown
pub echo_so : (ts : List Ty) (env : Env) (n : ℕ) (at place : Place) (os : List RustOperand) → no_fit_at at os ≡ place
    → echo_rule env n at (map (operand_of ts) os)
    ≡ and_then (shown_by place (all_shown env (map (operand_of ts) os))) (λ xs. Ok (echo (node n at) xs))
echo_so ts env n at place os e = by_all (all_shown env (map (operand_of ts) os))
  where
    by_all : (a : Option (List Valued))
        → echo_by n at (map (operand_of ts) os) a ≡ and_then (shown_by place a) (λ xs. Ok (echo (node n at) xs))
    by_all (Some vs) = refl
    by_all None = no_fit_is ts at os ∙ ap (λ p. refused NotTyped p) e
