-- The nodes of a typed expression are numbered one by one.
use Rattle.std.proofs.Common.{◌≡◌, ℕ, suc, Bool, true, false, List, [], ◌∷◌, refl, sym, ap, subst, ◌∙◌}
use Rattle.std.specs.Prelude.{pos, Option, Some, None, Ok, Err, if◌then◌else◌}
use Rattle.arc_base.specs.declared.place.Place.{Place}
use Rattle.arc_base.specs.Refusal.{Refusal, and_then}
use Rattle.nim_types.specs.Types as type
use Rattle.nim_types.specs.Types.{Ty, Tys, Fact, Facts, fact_of, same}
use Rattle.nim_program.specs.declared.expr.Node.{Node}
use Rattle.nim_program.specs.Program as P
use Rattle.nim_program.specs.Program.{Expr, Literal, Number, Path, Args}
use Rattle.expr_rules.specs.Env as env_of
use Rattle.expr_rules.specs.Env.{Env, Known, Parameter, Procedure, callable, known_as}
use Rattle.expr_rules.specs.Answers.{Answer, Typed, place_in, Valued, node, Operand, value, open_sequence, a_type, the_input, settled, open_as}
use Rattle.expr_rules.specs.Answers.{only_if}
use Rattle.expr_rules.specs.Answers.{exprs_of, gives, no_fit}
use Rattle.expr_rules.specs.Paths.{path_of, overlaps_any}
use Rattle.nim_tree.specs.declared.expr.UnaryOp.{UnaryOp}
use Rattle.nim_tree.specs.declared.expr.BinaryOp.{BinaryOp}
use Rattle.nim_program.specs.declared.operation.UnaryOperator.{UnaryOperator}
use Rattle.nim_program.specs.declared.operation.Comparison.{Comparison}
use Rattle.nim_program.specs.declared.program.Mode.{Mode}
use Rattle.nim_program.specs.declared.program.Mode.TheVariants.{Plain, Sink, Var}
use Rattle.expr_rules.specs.Calls.{Fit, onto, arguments_for, if_fits, fitting, no_overlap, var_argument, Argument, argument_by, argument_before, paths_with}
use Rattle.expr_rules.specs.Calls.{arguments_by, comparisons, comparison_named, borrowed_call, called, one_of}
use Rattle.expr_rules.specs.Constants.{constant_at, index_number}
use Rattle.expr_rules.specs.Constructions.{settled_as, from_distinct, is_some_type, base_of, source_of, or_from, convert_by, empty_object, conversion_rule}
use Rattle.expr_rules.specs.Constructions.{field_named, Found, read_part, nth_type, numbered_part, element_type, element_of, indexed, index_rule}
use Rattle.expr_rules.specs.Names.{unless_type, call_named, made_by, new_sequence_rule, can_show, shown_before, all_shown, echo_by, echo_rule, call_rule}
use Rattle.expr_rules.specs.Names.{if_field, field_of}
use Rattle.expr_rules.specs.Builtins.{Hand, as_value, in_place, to_write, handed, BuiltIn, on_nothing, on_one, on_place_and_value, on_places, on_type}
use Rattle.expr_rules.specs.Builtins.{on_input, on_input_and_place, operations_named, Done, first_settled, settled_in, with_type}
use Rattle.expr_rules.specs.Builtins.{is_int, is_echo, is_default, with_value, on_operands, or_later, first_row, writes_rule, operation_by}
use Rattle.expr_rules.specs.Builtins.{operation_rule}
use Rattle.expr_rules.specs.Operators.{unary_of, unary_by, unary_rule, Meaning, does, stops_early, means_nothing, meaning_of}
use Rattle.expr_rules.specs.Operators.{borrowed_name, borrowed_by, binary_by, other_settled, binary_rule}
use Rattle.expr_rules.specs.Numbers.{Run, run_on}
use Rattle.expr_rules.proofs.Listed.{numbers, path_numbers, args_numbers, Leads}

-- ---- answers whose value has a property

pub data Sure {A : Type 0} (P : A → Type 0) : Answer A → Type 0 where
  s_ok : {a : A} → P a → Sure P (Ok a)
  s_err : {f : Refusal} → Sure P (Err f)

ok_one : {A : Type 0} {a b : A} → ◌≡◌ {A = Answer A} (Ok a) (Ok b) → a ≡ b
ok_one e = cc

pub sure_ok : {A : Type 0} {P : A → Type 0} {r : Answer A} {a : A} → Sure P r → r ≡ Ok a → P a
sure_ok {P = P} (s_ok h) e = subst P (ok_one e) h
sure_ok s_err e = cc

pub sure_then : {A B : Type 0} {P : A → Type 0} {Q : B → Type 0} {r : Answer A} {go : A → Answer B} → Sure P r → ((a : A) → P a → Sure Q (go a))
    → Sure Q (and_then r go)
sure_then (s_ok {a = a} h) f = f a h
sure_then s_err f = s_err

pub sure_map : {A : Type 0} {P Q : A → Type 0} {r : Answer A} → Sure P r → ((a : A) → P a → Q a) → Sure Q r
sure_map (s_ok {a = a} h) f = s_ok (f a h)
sure_map s_err f = s_err

pub sure_any : {A : Type 0} (r : Answer A) → Sure (λ a. Unit {0}) r
sure_any (Ok a) = s_ok tt
sure_any (Err f) = s_err

pub sure_if : {A : Type 0} {P : A → Type 0} {a c : Answer A} (b : Bool) → Sure P a → Sure P c → Sure P (if b then a else c)
sure_if true h f = h
sure_if false h f = f

-- ---- numbers of operands

abbrev pub operand_numbers : Operand → List ℕ → List ℕ
operand_numbers (value v) rest = numbers v.expr rest
operand_numbers (open_sequence at n) rest = n ∷ rest
operand_numbers (a_type t) rest = rest
operand_numbers the_input rest = rest

abbrev pub all_numbers : List Operand → List ℕ → List ℕ
all_numbers [] rest = rest
all_numbers (o ∷ os) rest = operand_numbers o (all_numbers os rest)

abbrev pub value_numbers : List Valued → List ℕ → List ℕ
value_numbers [] rest = rest
value_numbers (v ∷ vs) rest = numbers v.expr (value_numbers vs rest)

-- a node before these
abbrev pub Node_of : ℕ → (List ℕ → List ℕ) → Expr → Type 0
Node_of n f e = (rest : List ℕ) → numbers e rest ≡ n ∷ f rest

path_same : (e : Expr) (rest : List ℕ) → path_numbers (path_of e) rest ≡ numbers e rest
path_same (P.Read path) rest = refl
path_same e rest = refl

pub parts_same : (vs : List Valued) (rest : List ℕ) → args_numbers (exprs_of vs) rest ≡ value_numbers vs rest
parts_same [] rest = refl
parts_same (v ∷ vs) rest = ap (numbers v.expr) (parts_same vs rest)

pub some_one : {A : Type 0} {a b : A} → ◌≡◌ {A = Option A} (Some a) (Some b) → a ≡ b
some_one e = cc

settled_same : (ty : Ty) (o : Operand) (v : Valued) → settled ty o ≡ Some v → (rest : List ℕ) → numbers v.expr rest ≡ operand_numbers o rest
settled_same ty (value w) v e rest = by_test (type.same ty w.of) e
  where
    by_test : (b : Bool) → only_if b w ≡ Some v → numbers v.expr rest ≡ numbers w.expr rest
    by_test true e = ap (λ x. numbers x.expr rest) (sym (some_one e))
    by_test false e = cc
settled_same (type.sequence t) (open_sequence at n) v e rest = ap (λ x. numbers x.expr rest) (sym (some_one e))
settled_same ty (open_sequence at n) v e rest = cc
settled_same ty (a_type t) v e rest = cc
settled_same ty the_input v e rest = cc

-- ---- operators

pub unary_node : (n : ℕ) (at : Place) (op : UnaryOp) (v : Valued) → Sure (Node_of n (numbers v.expr)) (unary_rule n at op v)
unary_node n at op v = by_operator (unary_of op v.of)
  where
    by_operator : (o : Option UnaryOperator) → Sure (Node_of n (numbers v.expr)) (unary_by n at o v)
    by_operator (Some o) = s_ok (λ rest. refl)
    by_operator None = s_err

-- ---- calls of procedures

abbrev pub argument_values : List (Parameter × Valued) → List ℕ → List ℕ
argument_values [] rest = rest
argument_values (a ∷ xs) rest = numbers a.1.expr (argument_values xs rest)

-- the arguments have the nodes of the operands
pub Carry : List Operand → List (Parameter × Valued) → Type 0
Carry os xs = (rest : List ℕ) → argument_values xs rest ≡ all_numbers os rest

onto_so : (a : Option Valued) (b : Option (List (Parameter × Valued))) (p : Parameter) (o : Operand) (os : List Operand) (xs : List (Parameter × Valued))
    → settled p.of o ≡ a → ((bs : List (Parameter × Valued)) → b ≡ Some bs → Carry os bs) → onto p a b ≡ Some xs → Carry (o ∷ os) xs
unfolding Carry
onto_so (Some v) (Some bs) p o os xs e f h rest =
    ap (λ xs. argument_values xs rest) (sym (some_one h))
    ∙ settled_same p.of o v e (argument_values bs rest) ∙ ap (operand_numbers o) (f bs refl rest)
onto_so (Some v) None p o os xs e f h rest = cc
onto_so None (Some bs) p o os xs e f h rest = cc
onto_so None None p o os xs e f h rest = cc

fits_so : (ps : List Parameter) (os : List Operand) (xs : List (Parameter × Valued)) → arguments_for ps os ≡ Some xs → Carry os xs
unfolding Carry
fits_so [] [] xs e rest = ap (λ xs. argument_values xs rest) (sym (some_one e))
fits_so (p ∷ ps) (o ∷ os) xs e rest = onto_so (settled p.of o) (arguments_for ps os) p o os xs refl (λ bs h. fits_so ps os bs h) e rest
fits_so [] (o ∷ os) xs e rest = cc
fits_so (p ∷ ps) [] xs e rest = cc

pub data AllFit (os : List Operand) : List Fit → Type 0 where
  a_none : AllFit os []
  a_more : {fit : Fit} {rest : List Fit} → Carry os fit.arguments → AllFit os rest → AllFit os (fit ∷ rest)

pub all_fit : (procs : List Procedure) (os : List Operand) → AllFit os (fitting procs os)
all_fit [] os = a_none
all_fit (p ∷ rest) os = by_arguments (arguments_for p.params os) refl (all_fit rest os)
  where
    by_arguments : (a : Option (List (Parameter × Valued))) → arguments_for p.params os ≡ a → AllFit os (fitting rest os)
        → AllFit os (if_fits p a (fitting rest os))
    by_arguments None e h = h
    by_arguments (Some xs) e h = a_more (fits_so p.params os xs e) h

var_path : (before : List Path) (v : Valued) → Sure (λ path. path ≡ path_of v.expr) (var_argument before v)
var_path before v = by_tests v.writable (overlaps_any (path_of v.expr) before)
  where
    by_tests : (a b : Bool) → Sure (λ path. path ≡ path_of v.expr) (no_overlap a b (place_in v.expr) (path_of v.expr))
    by_tests false b = s_err
    by_tests true true = s_err
    by_tests true false = s_ok refl

-- the argument has the nodes of its value
Carries : Valued → Argument → Type 0
Carries v a = (more : Args) (rest : List ℕ) → args_numbers (argument_before a more) rest ≡ numbers v.expr (args_numbers more rest)

argument_carries : (before : List Path) (mode : Mode) (v : Valued) → Sure (Carries v) (argument_by before mode v)
unfolding Carries
argument_carries before Var v =
    sure_then (var_path before v)
    (λ path e. s_ok (λ more rest. ap (λ p. path_numbers p (args_numbers more rest)) e ∙ path_same v.expr (args_numbers more rest)))
argument_carries before Sink v = s_ok (λ more rest. refl)
argument_carries before Plain v = s_ok (λ more rest. refl)

arguments_carry : (before : List Path) (xs : List (Parameter × Valued))
    → Sure (λ args. (rest : List ℕ) → args_numbers args rest ≡ argument_values xs rest) (arguments_by before xs)
unfolding Carries
arguments_carry before [] = s_ok (λ rest. refl)
arguments_carry before (a ∷ xs) =
    sure_then (argument_carries before a.0.mode a.1) (λ first f. sure_then (arguments_carry (paths_with before first) xs) (λ args g.
    s_ok (λ rest. f args rest ∙ ap (numbers a.1.expr) (g rest))))

borrowed_node : (n : ℕ) (at : Place) (c : Option Comparison) (xs : List (Parameter × Valued))
    → Sure (Node_of n (argument_values xs)) (borrowed_call n at c xs)
borrowed_node n at (Some c) (a ∷ b ∷ []) = s_ok (λ rest. refl)
borrowed_node n at None (a ∷ []) = s_ok (λ rest. refl)
borrowed_node n at _ _ = s_err

called_node : (n : ℕ) (at : Place) (b : Bool) (x : List ℕ) (fit : Fit) (os : List Operand) → Carry os fit.arguments
    → Sure (Node_of n (all_numbers os)) (called n at b x fit)
unfolding Carry
called_node n at true x fit os h =
    sure_map (borrowed_node n at (comparison_named x comparisons) fit.arguments) (λ e f rest. f rest ∙ ap (λ ns. n ∷ ns) (h rest))
called_node n at false x fit os h =
    sure_then (arguments_carry [] fit.arguments) (λ args f. s_ok (λ rest. ap (λ ns. n ∷ ns) (f rest ∙ h rest)))

pub one_node : (n : ℕ) (at : Place) (x : List ℕ) (fits : List Fit) (os : List Operand) (otherwise : Answer Expr) → AllFit os fits
    → Sure (Node_of n (all_numbers os)) otherwise → Sure (Node_of n (all_numbers os)) (one_of n at x fits otherwise)
one_node n at x [] os otherwise h f = f
one_node n at x (fit ∷ []) os otherwise (a_more h k) f = called_node n at fit.callee.borrowed x fit os h
one_node n at x (fit ∷ other ∷ rest) os otherwise h f = s_err

-- ---- operators between operands

binary_node_by : (env : Env) (n : ℕ) (at : Place) (op : BinaryOp) (m : Meaning) (v w : Valued)
    → Sure (Node_of n (λ rest. numbers v.expr (numbers w.expr rest))) (binary_by env n at op m v w)
binary_node_by env n at op (does o t) v w = s_ok (λ rest. refl)
binary_node_by env n at op (stops_early s) v w = s_ok (λ rest. refl)
binary_node_by env n at op means_nothing v w = by_name (borrowed_name op)
  where
    by_name : (x : Option (List ℕ)) → Sure (Node_of n (λ rest. numbers v.expr (numbers w.expr rest))) (borrowed_by env n at x v w)
    by_name None = s_err
    by_name (Some x) = one_node n at x _ (value v ∷ value w ∷ []) _ (all_fit (callable (known_as env x)) (value v ∷ value w ∷ [])) s_err

other_same : (ty : Ty) (p : Place) (m : ℕ) → Sure (λ w. (rest : List ℕ) → numbers w.expr rest ≡ m ∷ rest) (other_settled (open_as ty p m) p)
other_same (type.sequence t) p m = s_ok (λ rest. refl)
other_same _ p m = s_err

pub binary_node : (env : Env) (n : ℕ) (at : Place) (op : BinaryOp) (o r : Operand)
    → Sure (Node_of n (λ rest. operand_numbers o (operand_numbers r rest))) (binary_rule env n at op o r)
binary_node env n at op (value v) (value w) = binary_node_by env n at op (meaning_of op v.of w.of) v w
binary_node env n at op (value v) (open_sequence p m) =
    sure_then (other_same v.of p m) (λ w e. sure_map (binary_node_by env n at op (meaning_of op v.of w.of) v w)
    (λ x f rest. f rest ∙ ap (λ ns. n ∷ numbers v.expr ns) (e rest)))
binary_node env n at op (open_sequence p m) (value w) =
    sure_then (other_same w.of p m) (λ v e. sure_map (binary_node_by env n at op (meaning_of op v.of w.of) v w)
    (λ x f rest. f rest ∙ ap (λ ns. n ∷ ns) (e (numbers w.expr rest))))
binary_node env n at op (open_sequence p m) (open_sequence q k) = s_err
binary_node env n at op (open_sequence p m) (a_type t) = s_err
binary_node env n at op (open_sequence p m) the_input = s_err
binary_node env n at op (value v) (a_type t) = s_err
binary_node env n at op (value v) the_input = s_err
binary_node env n at op (a_type t) r = s_err
binary_node env n at op the_input r = s_err

-- ---- built-in operations

-- a row that fits has the nodes of the operands
abbrev IfDone : (Expr → Type 0) → Option Done → Type 0
IfDone P None = Unit {0}
IfDone P (Some d) = P d.expr

if_only : (P : Expr → Type 0) (d : Done) (b : Bool) → P d.expr → IfDone P (only_if b d)
if_only P d true h = h
if_only P d false h = tt

if_value : (P : Expr → Type 0) (v w : Option Valued) (go : Valued → Done) → v ≡ w → ((u : Valued) → v ≡ Some u → P (go u).expr)
    → IfDone P (with_value w go)
if_value P v None go e h = tt
if_value P v (Some u) go e h = h u e

settled_in_same : (ts : List Ty) (o : Operand) (v : Valued) → settled_in ts o ≡ Some v → (rest : List ℕ) → numbers v.expr rest ≡ operand_numbers o rest
settled_in_same [] o v e rest = cc
settled_in_same (t ∷ ts) o v e rest = by_first (settled t o) refl (λ e. settled_in_same ts o v e rest) e
  where
    by_first : (a : Option Valued) → settled t o ≡ a → (settled_in ts o ≡ Some v → numbers v.expr rest ≡ operand_numbers o rest)
        → first_settled a (settled_in ts o) ≡ Some v → numbers v.expr rest ≡ operand_numbers o rest
    by_first (Some w) e more h = settled_same t o v (e ∙ h) rest
    by_first None e more h = more h

if_type : (P : Expr → Type 0) (a : Option (Option Ty)) (go : Option Ty → Done) → ((ty : Option Ty) → P (go ty).expr) → IfDone P (with_type a go)
if_type P None go h = tt
if_type P (Some ty) go h = h ty

handed_same : (hand : Hand) (v : Valued) (rest : List ℕ) → args_numbers (handed hand v) rest ≡ numbers v.expr rest
handed_same as_value v rest = refl
handed_same in_place v rest = path_same v.expr rest
handed_same to_write v rest = path_same v.expr rest

on_row : (k : Node) (row : BuiltIn) (os : List Operand) → IfDone (Node_of k.number (all_numbers os)) (on_operands k row os)
on_row k (on_nothing o) [] = λ rest. refl
on_row k (on_one hand gives o) (value v ∷ []) = if_type _ (gives v.of) _ (λ ty rest. ap (λ ns. k.number ∷ ns) (handed_same hand v rest))
on_row k (on_place_and_value goes o) (value v ∷ q ∷ []) =
    if_value _ (settled_in (goes v.of) q) (settled_in (goes v.of) q) _ refl (λ w h rest.
    ap (λ ns. k.number ∷ ns) (path_same v.expr (numbers w.expr rest) ∙ ap (numbers v.expr) (settled_in_same (goes v.of) q w h rest)))
on_row k (on_places o) (value v ∷ value w ∷ []) =
    if_only _ _ (same v.of w.of) (λ rest.
    ap (λ ns. k.number ∷ ns) (path_same v.expr (path_numbers (path_of w.expr) rest) ∙ ap (numbers v.expr) (path_same w.expr rest)))
on_row k (on_type gives act) (a_type t ∷ []) = if_type _ (gives t) _ (λ ty rest. refl)
on_row k (on_input ty o) (the_input ∷ []) = λ rest. refl
on_row k (on_input_and_place test ty o) (the_input ∷ value v ∷ []) =
    if_only _ _ (test v.of) (λ rest. ap (λ ns. k.number ∷ ns) (path_same v.expr rest))
on_row k row os = tt

first_node : (k : Node) (rows : List BuiltIn) (os : List Operand) → IfDone (Node_of k.number (all_numbers os)) (first_row k rows os)
first_node k [] os = tt
first_node k (row ∷ rest) os = by_answer (on_operands k row os) (on_row k row os) (first_node k rest os)
  where
    by_answer : (a : Option Done) → IfDone (Node_of k.number (all_numbers os)) a → IfDone (Node_of k.number (all_numbers os)) (first_row k rest os)
        → IfDone (Node_of k.number (all_numbers os)) (or_later a (first_row k rest os))
    by_answer (Some d) h f = h
    by_answer None h f = f

-- ---- calls by a name

fit_none : {A : Type 0} (P : A → Type 0) (at : Place) (os : List Operand) → Sure P (no_fit at os)
fit_none P at [] = s_err
fit_none P at (open_sequence p n ∷ rest) = s_err
fit_none P at (value v ∷ rest) = fit_none P at rest
fit_none P at (a_type t ∷ rest) = fit_none P at rest
fit_none P at (the_input ∷ rest) = fit_none P at rest

-- what is converted is the operand
Converts : Operand → Option Valued → Type 0
Converts o a = (v : Valued) → a ≡ Some v → (rest : List ℕ) → numbers v.expr rest ≡ operand_numbers o rest

source_converts : (s : Option Ty) (o : Operand) → Converts o (settled_as s o)
unfolding Converts
source_converts None o v e rest = cc
source_converts (Some t) o v e rest = settled_same t o v e rest

only_converts : (b : Bool) (v : Valued) → Converts (value v) (only_if b v)
unfolding Converts
only_converts true v w e rest = ap (λ x. numbers x.expr rest) (sym (some_one e))
only_converts false v w e rest = cc

from_converts : (facts : Facts) (ty : Ty) (o : Operand) → Converts o (from_distinct facts ty o)
unfolding Converts
from_converts facts ty (value v) w e rest = only_converts (is_some_type (base_of facts v.of) ty) v w e rest
from_converts facts ty (open_sequence at n) w e rest = cc
from_converts facts ty (a_type t) w e rest = cc
from_converts facts ty the_input w e rest = cc

or_converts : (o : Operand) (a b : Option Valued) → Converts o a → Converts o b → Converts o (or_from a b)
unfolding Converts
or_converts o (Some v) b f g = f
or_converts o None b f g = g

convert_node : (n : ℕ) (at : Place) (ty : Ty) (o : Operand) (a : Option Valued) → Converts o a
    → Sure (Node_of n (all_numbers (o ∷ []))) (convert_by n at ty o a)
unfolding Converts
convert_node n at ty o (Some v) f = s_ok (λ rest. ap (λ ns. n ∷ ns) (f v refl rest))
convert_node n at ty o None f = fit_none _ at (o ∷ [])

empty_node : (n : ℕ) (at : Place) (ty : Ty) (f : Option Fact) → Sure (Node_of n (all_numbers [])) (empty_object n at ty f)
empty_node n at ty (Some (type.fields all resource)) = s_ok (λ rest. refl)
empty_node n at ty _ = s_err

pub conversion_node : (env : Env) (n : ℕ) (at : Place) (ty : Ty) (os : List Operand) → Sure (Node_of n (all_numbers os)) (conversion_rule env n at ty os)
conversion_node env n at ty [] = empty_node n at ty (fact_of env.facts ty)
conversion_node env n at ty (o ∷ []) =
    convert_node n at ty o _ (or_converts o (settled_as (source_of env.facts ty) o) (from_distinct env.facts ty o)
    (source_converts (source_of env.facts ty) o) (from_converts env.facts ty o))
conversion_node env n at ty (o ∷ q ∷ rest) = fit_none _ at (o ∷ q ∷ rest)

operation_node : (k : Node) (x : List ℕ) (os : List Operand) → Sure (Node_of k.number (all_numbers os)) (operation_rule k x os)
operation_node k x os = by_row (first_row k (operations_named x) os) (first_node k (operations_named x) os)
  where
    by_row : (a : Option Done) → IfDone (Node_of k.number (all_numbers os)) a → Sure (Node_of k.number (all_numbers os)) (operation_by k.at os a)
    by_row None h = fit_none _ k.at os
    by_row (Some d) h = sure_then (sure_any (writes_rule d.writes)) (λ u i. s_ok h)

type_node : (env : Env) (n : ℕ) (at : Place) (k : Known) (x : List ℕ) (os : List Operand)
    → Sure (Node_of n (all_numbers os)) (unless_type env n at k x os)
type_node env n at (env_of.a_type ty) x os = conversion_node env n at ty os
type_node env n at env_of.unknown x os = operation_node (node n at) x os
type_node env n at (env_of.a_variable p t w g) x os = operation_node (node n at) x os
type_node env n at (env_of.a_constant ty l) x os = operation_node (node n at) x os
type_node env n at (env_of.procedures all) x os = operation_node (node n at) x os
type_node env n at env_of.a_pending_type x os = operation_node (node n at) x os
type_node env n at env_of.the_input x os = operation_node (node n at) x os

named_node : (env : Env) (n : ℕ) (at : Place) (x : List ℕ) (os : List Operand) → Sure (Node_of n (all_numbers os)) (call_named env n at x os)
named_node env n at x os =
    sure_if (is_default x) (operation_node (node n at) x os)
    (one_node n at x _ os _ (all_fit (callable (known_as env x)) os) (type_node env n at (known_as env x) x os))

pub sequence_made : (n : ℕ) (at : Place) (ty : Ty) (os : List Operand) → Sure (Node_of n (all_numbers os)) (new_sequence_rule n at ty os)
sequence_made n at ty [] = s_err
sequence_made n at ty (o ∷ q ∷ rest) = fit_none _ at (o ∷ q ∷ rest)
sequence_made n at ty (o ∷ []) = by_int (settled type.int o) refl
  where
    by_int : (a : Option Valued) → settled type.int o ≡ a → Sure (Node_of n (all_numbers (o ∷ []))) (made_by n at ty (o ∷ []) a)
    by_int (Some v) e = s_ok (λ rest. ap (λ ns. n ∷ ns) (settled_same type.int o v e rest))
    by_int None e = fit_none _ at (o ∷ [])

before_shown : (b : Bool) (v : Valued) (more : Option (List Valued)) (os : List Operand) (vs : List Valued)
    → ((ws : List Valued) → more ≡ Some ws → (rest : List ℕ) → value_numbers ws rest ≡ all_numbers os rest) → shown_before b v more ≡ Some vs
    → (rest : List ℕ) → value_numbers vs rest ≡ all_numbers (value v ∷ os) rest
before_shown true v (Some ws) os vs f e rest = ap (λ vs. value_numbers vs rest) (sym (some_one e)) ∙ ap (numbers v.expr) (f ws refl rest)
before_shown true v None os vs f e rest = cc
before_shown false v more os vs f e rest = cc

shown_same : (env : Env) (os : List Operand) (vs : List Valued) → all_shown env os ≡ Some vs → (rest : List ℕ)
    → value_numbers vs rest ≡ all_numbers os rest
shown_same env [] vs e rest = ap (λ vs. value_numbers vs rest) (sym (some_one e))
shown_same env (value v ∷ os) vs e rest = before_shown (can_show env v) v (all_shown env os) os vs (λ ws h. shown_same env os ws h) e rest
shown_same env (open_sequence at n ∷ os) vs e rest = cc
shown_same env (a_type t ∷ os) vs e rest = cc
shown_same env (the_input ∷ os) vs e rest = cc

-- ---- runs of numbers

abbrev pub TypedRuns : ℕ → Typed → Type 0
TypedRuns n x = Leads n x.next (numbers x.expr)

pub leads_node : (n m : ℕ) (f : List ℕ → List ℕ) (e : Expr) → Leads (suc n) m f → Node_of n f e → Leads n m (numbers e)
leads_node n m f e h g rest k r = subst (λ ns. Run n ns k) (sym (g rest)) (run_on (h rest k r))

pub gives_runs : {n m : ℕ} {f : List ℕ → List ℕ} {r : Answer Expr} → Leads (suc n) m f → Sure (Node_of n f) r
    → Sure (TypedRuns n) (and_then r (λ e. gives e m))
gives_runs {n} {m} {f} h s = sure_then s (λ e g. s_ok (leads_node n m f e h g))

echo_node : (env : Env) (n : ℕ) (at : Place) (os : List Operand) → Sure (Node_of n (all_numbers os)) (echo_rule env n at os)
echo_node env n at os = by_shown (all_shown env os) refl
  where
    by_shown : (a : Option (List Valued)) → all_shown env os ≡ a → Sure (Node_of n (all_numbers os)) (echo_by n at os a)
    by_shown (Some vs) e = s_ok (λ rest. ap (λ ns. n ∷ ns) (parts_same vs rest ∙ shown_same env os vs e rest))
    by_shown None e = fit_none _ at os

pub call_node : (env : Env) (n : ℕ) (at : Place) (x : List ℕ) (os : List Operand) → Sure (Node_of n (all_numbers os)) (call_rule env n at x os)
call_node env n at x os = sure_if (is_echo x) (echo_node env n at os) (named_node env n at x os)

pub field_node : (env : Env) (n : ℕ) (at : Place) (x : List ℕ) (o : Operand) (e : Expr) → field_of env n at x o ≡ Some e
    → Node_of n (all_numbers (o ∷ [])) e
field_node env n at x (value v) e f = by_field (field_named env x v.of) f
  where
    by_field : (a : Option Found) → if_field n at v a ≡ Some e → Node_of n (numbers v.expr) e
    by_field (Some g) h rest = ap (λ x. numbers x rest) (sym (some_one h)) ∙ ap (λ ns. n ∷ ns) (path_same v.expr rest)
    by_field None h rest = cc
field_node env n at x (open_sequence p k) e f = λ rest. cc
field_node env n at x (a_type t) e f = λ rest. cc
field_node env n at x the_input e f = λ rest. cc

element_runs : (facts : Facts) (n m k : ℕ) (at : Place) (v i : Valued) (t : Option Ty) → Leads (suc n) m (numbers v.expr) → Leads m k (numbers i.expr)
    → Sure (TypedRuns n) (element_of facts n k at v i t)
element_runs facts n m k at v i (Some t) h g =
    s_ok (leads_node n k (λ rest. numbers v.expr (numbers i.expr rest)) (P.Read (P.Element (node n at) t (path_of v.expr) i.expr (index_number facts i.expr)))
    (λ rest l r. h (numbers i.expr rest) l (g rest l r)) (λ rest. ap (λ ns. n ∷ ns) (path_same v.expr (numbers i.expr rest))))
element_runs facts n m k at v i None h g = s_err

part_node : (n : ℕ) (at : Place) (v : Valued) (ts : Tys) (l : Literal) → Sure (Node_of n (numbers v.expr)) (numbered_part n at v ts l)
part_node n at v ts (Number (pos i)) = by_type (nth_type i ts)
  where
    by_type : (t : Option Ty) → Sure (Node_of n (numbers v.expr)) (read_part n at v i t)
    by_type (Some t) = s_ok (λ rest. ap (λ ns. n ∷ ns) (path_same v.expr rest))
    by_type None = s_err
part_node n at v ts _ = s_err

indexed_runs : (env : Env) (n m k : ℕ) (at : Place) (v : Valued) (t : Ty) (i : Valued) → Leads (suc n) m (numbers v.expr) → Leads m k (numbers i.expr)
    → Sure (TypedRuns n) (indexed env n m k at v t i)
indexed_runs env n m k at v (type.tuple names ts) i h g =
    gives_runs h (sure_then (sure_any (constant_at env.facts at i)) (λ l u. part_node n at v ts l))
indexed_runs env n m k at v t i h g = element_runs env.facts n m k at v i (element_type t) h g

pub index_runs : (env : Env) (n m k : ℕ) (at : Place) (v i : Valued) → Leads (suc n) m (numbers v.expr) → Leads m k (numbers i.expr)
    → Sure (TypedRuns n) (index_rule env n m k at v i)
index_runs env n m k at v i h g = sure_if (is_int i.of) (indexed_runs env n m k at v v.of i h g) s_err
