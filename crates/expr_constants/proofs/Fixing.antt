-- What no later type changes, and its parts.
use Rattle.std.proofs.Common.{◌≡◌, ℕ, zero, suc, ◌+◌, ◌-◌, ◌<◌, ◌≤◌, List, [], ◌∷◌, ◌++◌, length, drop, refl, sym, ap}
use Rattle.std.proofs.Common.{ap₂, subst, ◌∙◌, Some, None, arith, append-nil}
use Rattle.std.specs.Prelude.{Bool, true, false, nat_le, map, Option, Result, Ok, Err}
use Rattle.std.proofs.lemmas.Bool.{both_ways, leb-true, leb-false}
use Rattle.arc_base.specs.Refusal.{Answers}
use Rattle.nim_types.specs.declared.types.TypeDef.{TypeDef}
use Rattle.nim_types.specs.Types as type
use Rattle.nim_types.specs.Types.{Ty, Facts}
use Rattle.nim_types.specs.Table.{type_at, types_in, facts_in, IsTable, IsBelow}
use Rattle.nim_types.proofs.ForCallers.{count}
use Rattle.nim_program.specs.declared.expr.Operand.{Operand as RustArgument}
use Rattle.nim_program.specs.declared.expr.Operand.TheVariants as argument
use Rattle.nim_program.specs.Program as P
use Rattle.nim_program.specs.Program.{Expr, Path, Args}
use Rattle.nim_program.specs.View.{expr_of, if_type, literal_of, operands_of}
use Rattle.expr_rules.specs.Answers.{Answer, Valued, value_of}
use Rattle.expr_rules.specs.Builtins.{is_bool}
use Rattle.expr_rules.specs.Env.{Env, variable, constant, named, procedure}
use Rattle.nim_program.specs.declared.expr.Expr.{Expr as RustExpr}
use Rattle.expr_parts.specs.declared.value.Value.{Value as RustValue}
use Rattle.expr_parts.specs.declared.scope.Parameter.{Parameter}
use Rattle.expr_parts.specs.declared.scope.Decl.{Decl}
use Rattle.expr_parts.specs.declared.scope.Scope.{Scope}
use Rattle.expr_parts.specs.declared.scope.What.{What}
use Rattle.expr_parts.specs.declared.scope.What.TheVariants as what
use Rattle.expr_parts.specs.View.{Under, env_of, entry_of, entry_by, parameter_of, ParametersWithin, WhatWithin, DeclsWithin, valued_of}
use Rattle.expr_parts.proofs.ForCallers.{front_of}
use Rattle.expr_constants.specs.ViewFixed.{IsFixed}

-- the types of the table alone
own_types : {ds : List TypeDef} {ts : List Ty} {facts : Facts} → Under ds ts facts → Under ds (types_in ds) facts
own_types {ds} u = record { table = u.table; more = []; begins = sym (append-nil (types_in ds)); said = u.said }

pub fixed_by : {A B : Type 0} (ds : List TypeDef) (f : A → B) (of : List Ty → A) → IsFixed ds of → IsFixed ds (λ ts. f (of ts))
fixed_by ds f of h = λ ts facts u. ap f (h ts facts u)

-- what is known by another name
pub fixed_as : {A : Type 0} (ds : List TypeDef) (of other : List Ty → A) → ((ts : List Ty) → of ts ≡ other ts) → IsFixed ds of → IsFixed ds other
fixed_as ds of other e h = λ ts facts u. sym (e ts) ∙ h ts facts u ∙ e (types_in ds)

-- ---- a number

abbrev ints_and_bool : ℕ → List Ty
ints_and_bool zero = type.bool ∷ []
ints_and_bool (suc k) = type.int ∷ ints_and_bool k

bool_behind : (ts : List Ty) (k i : ℕ) → i ≡ length ts + k → type_at (ts ++ ints_and_bool k) i ≡ type.bool
bool_behind [] zero zero e = refl
bool_behind [] zero (suc i) e = absurd (omega (arith, e))
bool_behind [] (suc k) zero e = absurd (omega (arith, e))
bool_behind [] (suc k) (suc i) e = bool_behind [] k i (omega (arith, e))
bool_behind (t ∷ ts) k zero e = absurd (omega (arith, e))
bool_behind (t ∷ ts) k (suc i) e = bool_behind ts k i (omega (arith, e))

int_behind : (ts : List Ty) (i : ℕ) → length ts ≤ i → type_at ts i ≡ type.int
int_behind [] i h = refl
int_behind (t ∷ ts) zero h = absurd (omega (arith, h))
int_behind (t ∷ ts) (suc i) h = int_behind ts i (omega (arith, h))

pub fixed_below : (ds : List TypeDef) (id : ℕ) → IsTable ds → IsFixed ds (λ ts. type_at ts id) → id < length ds
fixed_below ds id table h = by_test (nat_le (length ds) id) refl
  where
    by_test : (b : Bool) → nat_le (length ds) id ≡ b → id < length ds
    by_test false e = let lt = leb-false (length ds) id e in omega (arith, lt)
    by_test true e =
        let le = leb-true (length ds) id e in
        let all = types_in ds in
        let n : length all ≡ length ds = count ds in
        let k = id - length ds in
        let us = all ++ ints_and_bool k in
        let other = h us (facts_in ds) (record { table = table; more = ints_and_bool k; begins = refl; said = refl }) in
        absurd (both_ways (is_bool type.int) refl
        (ap is_bool (sym (int_behind all id (omega (arith, le, n))) ∙ sym other ∙ bool_behind all k id (omega (arith, le, n)))))

pub some_fixed : (ds : List TypeDef) (id : ℕ) → IsFixed ds (λ ts. if_type ts (Some id)) → IsFixed ds (λ ts. type_at ts id)
some_fixed ds id h = fixed_by ds or_int (λ ts. if_type ts (Some id)) h
  where
    or_int : Option Ty → Ty
    or_int (Some t) = t
    or_int _ = type.int

-- ---- parts of expressions, and what stands for one that isn't there

abbrev pub args_in : Expr → Args
args_in (P.Apply node ty act operands) = operands
args_in _ = P.NoArg

abbrev pub left_in : Expr → Expr
left_in (P.Early node ty short left right) = left
left_in e = e

abbrev pub right_in : Expr → Expr
right_in (P.Early node ty short left right) = right
right_in e = e

abbrev pub value_of_path : Expr → Path → Expr
value_of_path other (P.Fresh e) = e
value_of_path other _ = other

abbrev pub first_value : Expr → Args → Expr
first_value other (P.ByValue e rest) = e
first_value other _ = other

abbrev pub first_path : Path → Args → Path
first_path other (P.ByPath path rest) = path
first_path other _ = other

-- ---- operands

abbrev first_alone : Args → Args
first_alone P.NoArg = P.NoArg
first_alone (P.ByValue e rest) = P.ByValue e P.NoArg
first_alone (P.ByPath path rest) = P.ByPath path P.NoArg

abbrev behind_first : Args → Args
behind_first P.NoArg = P.NoArg
behind_first (P.ByValue e rest) = rest
behind_first (P.ByPath path rest) = rest

is_alone : (ts : List Ty) (a : RustArgument) (rest : List RustArgument) → first_alone (operands_of ts (a ∷ rest)) ≡ operands_of ts (a ∷ [])
is_alone ts (argument.Value e) rest = refl
is_alone ts (argument.At path) rest = refl

is_behind : (ts : List Ty) (a : RustArgument) (rest : List RustArgument) → behind_first (operands_of ts (a ∷ rest)) ≡ operands_of ts rest
is_behind ts (argument.Value e) rest = refl
is_behind ts (argument.At path) rest = refl

pub drop_fixed : (ds : List TypeDef) (os : List RustArgument) (i : ℕ) → IsFixed ds (λ ts. operands_of ts os) → IsFixed ds (λ ts. operands_of ts (drop i os))
drop_fixed ds os zero h = h
drop_fixed ds [] (suc i) h = h
drop_fixed ds (a ∷ os) (suc i) h =
    drop_fixed ds os i
    (fixed_as ds (λ ts. behind_first (operands_of ts (a ∷ os))) (λ ts. operands_of ts os) (λ ts. is_behind ts a os)
    (fixed_by ds behind_first (λ ts. operands_of ts (a ∷ os)) h))

pub first_fixed : (ds : List TypeDef) (os : List RustArgument) (a : RustArgument) (rest : List RustArgument) → os ≡ a ∷ rest
    → IsFixed ds (λ ts. operands_of ts os) → IsFixed ds (λ ts. operands_of ts (a ∷ []))
first_fixed ds os a rest e h =
    fixed_as ds (λ ts. first_alone (operands_of ts os)) (λ ts. operands_of ts (a ∷ []))
    (λ ts. ap (λ all. first_alone (operands_of ts all)) e ∙ is_alone ts a rest)
    (fixed_by ds first_alone (λ ts. operands_of ts os) h)

-- ---- what rules say of what is declared

params_fixed : {ds : List TypeDef} {ts : List Ty} {facts : Facts} (ps : List Parameter) → Under ds ts facts → ParametersWithin (length ds) ps
    → map (parameter_of ts) ps ≡ map (parameter_of (types_in ds)) ps
params_fixed [] u h = refl
params_fixed (p ∷ ps) u h =
    ap₂ (λ t rest. record { mode = p.mode; of = t } ∷ rest) (front_of p.ty u h.0) (params_fixed ps u h.1)

gives_fixed : {ds : List TypeDef} {ts : List Ty} {facts : Facts} (o : Option ℕ) → Under ds ts facts → IsBelow (length ds) o →
    if_type ts o ≡ if_type (types_in ds) o
gives_fixed None u h = refl
gives_fixed (Some i) u h = ap Some (front_of i u h)

entry_fixed : {ds : List TypeDef} {ts : List Ty} {facts : Facts} (x : List ℕ) (w : What) → Under ds ts facts → WhatWithin (length ds) w
    → entry_by ts x w ≡ entry_by (types_in ds) x w
entry_fixed {ds} {ts} x (what.Variable place ty writable global) u h = ap (λ t. variable x place t writable global) (front_of ty u h)
entry_fixed {ds} {ts} x (what.Constant ty l) u h = ap (λ t. constant x t (literal_of l)) (front_of ty u h)
entry_fixed {ds} {ts} x (what.Type id) u h = ap (named x) (front_of id u h)
entry_fixed {ds} {ts} x what.Pending u h = refl
entry_fixed {ds} {ts} x (what.Procedure p) u h =
    ap₂ (λ gives params. procedure x (record { number = p.number; params = params; gives = gives; borrowed = p.borrowed })) (gives_fixed p.gives u h.0)
    (params_fixed p.params u h.1)
entry_fixed {ds} {ts} x what.Input u h = refl

entries_fixed : {ds : List TypeDef} {ts : List Ty} {facts : Facts} (all : List Decl) → Under ds ts facts → DeclsWithin (length ds) all
    → map (entry_of ts) all ≡ map (entry_of (types_in ds)) all
entries_fixed [] u h = refl
entries_fixed (d ∷ all) u h = ap₂ (λ e es. e ∷ es) (entry_fixed d.name d.what u h.0) (entries_fixed all u h.1)

-- a scope and a type of a table, of which the other has the types
pub scope_fixed : (old new : List TypeDef) (s : Scope) (facts : Facts) → DeclsWithin (length old) s.decls
    → ((ts : List Ty) (facts : Facts) → Under new ts facts → Under old ts facts) → IsFixed new (λ ts. env_of ts facts s)
scope_fixed old new s facts h under = λ ts fs u.
    ap (λ es. record { entries = es; facts = facts; home = s.home })
    (entries_fixed s.decls (under ts fs u) h ∙ sym (entries_fixed s.decls (under (types_in new) fs (own_types u)) h))

pub type_fixed : (old new : List TypeDef) (ty : Option ℕ) → IsBelow (length old) ty
    → ((ts : List Ty) (facts : Facts) → Under new ts facts → Under old ts facts) → IsFixed new (λ ts. if_type ts ty)
type_fixed old new ty h under = λ ts fs u. gives_fixed ty (under ts fs u) h ∙ sym (gives_fixed ty (under (types_in new) fs (own_types u)) h)

abbrev ok_or : {A E : Type 0} → A → Result A E → A
ok_or other (Ok x) = x
ok_or other (Err e) = other

same_Ok : {A E : Type 0} (x y : A) (r : Result A E) → r ≡ Ok x → r ≡ Ok y → x ≡ y
same_Ok x y r h k = ap (ok_or x) (sym h ∙ k)

-- what is said of what is fixed
pub made_fixed : {A T : Type 0} (ds : List TypeDef) (of : List Ty → T → A) (said : List Ty → Answer A) (x : T)
    → ((ts : List Ty) (facts : Facts) → Under ds ts facts → Answers (of ts) (said ts) (Ok x)) → IsFixed ds said → IsFixed ds (λ ts. of ts x)
made_fixed ds of said x h f = λ ts facts u.
    same_Ok (of ts x) (of (types_in ds) x) (said ts) (h ts facts u) (f ts facts u ∙ h (types_in ds) facts (own_types u))

-- an expression as a value
pub value_fixed : (ds : List TypeDef) (e : RustExpr) (v : RustValue) → ((ts : List Ty) → Answers (valued_of ts) (value_of (expr_of ts e)) (Ok v))
    → IsFixed ds (λ ts. expr_of ts e) → IsFixed ds (λ ts. expr_of ts v.expr)
value_fixed ds e v h f =
    fixed_by ds (λ (x : Valued). x.expr) (λ ts. valued_of ts v)
    (made_fixed ds valued_of (λ ts. value_of (expr_of ts e)) v (λ ts facts u. h ts) (fixed_by ds value_of (λ ts. expr_of ts e) f))

-- what is said in a scope of a table
pub answered_fixed : {A T : Type 0} (old new : List TypeDef) (s : Scope) (of : List Ty → T → A) (said : Env → Answer A) (x : T)
    → DeclsWithin (length old) s.decls → ((ts : List Ty) (facts : Facts) → Under new ts facts → Under old ts facts)
    → ((ts : List Ty) (facts : Facts) → Under new ts facts → Answers (of ts) (said (env_of ts facts s)) (Ok x))
    → IsFixed new (λ ts. of ts x)
answered_fixed old new s of said x within under h =
    made_fixed new of (λ ts. said (env_of ts (facts_in new) s)) x
    (λ ts facts u. subst (λ (f : Facts). Answers (of ts) (said (env_of ts f s)) (Ok x)) u.said (h ts facts u))
    (fixed_by new said (λ ts. env_of ts (facts_in new) s) (scope_fixed old new s (facts_in new) within under))
