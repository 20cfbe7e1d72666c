-- Values in statements.
use Rattle.std.specs.Prelude.{ℕ, ℤ, Bool, true, false, if◌then◌else◌, Option, Some, None, Ok}
use Rattle.arc_base.specs.declared.place.Place.{Place}
use Rattle.arc_base.specs.Refusal.{and_then}
use Rattle.nim_tree.specs.declared.stmt.AssignOp.{AssignOp}
use Rattle.nim_tree.specs.declared.stmt.AssignOp.TheVariants as sign
use Rattle.nim_tree.specs.Terms.{Term, Parts, no_parts, part}
use Rattle.nim_types.specs.Types as type
use Rattle.nim_types.specs.Types.{Ty, same}
use Rattle.nim_program.specs.declared.expr.Node.{Node}
use Rattle.nim_program.specs.declared.operation.Operator.TheVariants as operator
use Rattle.nim_program.specs.declared.stmt.Leaving.TheVariants as leaving
use Rattle.nim_program.specs.Program.{Expr, Path, Stmt, Idle, Give, Leave, type_of}
use Rattle.nim_program.specs.Nodes.{one_value, path_and_value, discard, assign, update, append}
use Rattle.nim_program.specs.SelfAssignment.{is_itself, is_result}
use Rattle.expr_rules.specs.Env.{Env}
use Rattle.expr_rules.specs.Answers.{Answer, not_typed, place_in, Valued, value_of, Want, nothing, whole, inner}
use Rattle.expr_rules.specs.Builtins.{is_int, is_text}
use Rattle.expr_rules.specs.Constructions.{element_type}
use Rattle.expr_rules.specs.Demands.{is_selector}
use Rattle.expr_rules.specs.Names.{length_rule}
use Rattle.expr_rules.specs.Paths.{can_be_written}
use Rattle.expr_rules.specs.Typed.{typed}
use Rattle.decl_rules.specs.State.{ResultPlace, Inside, module_code, a_procedure}

-- a typed value, and the first number behind its nodes
pub record Value : Type 0 where
  pub given : Valued
  pub next : ℕ

abbrev pub as_value : Valued → ℕ → Value
as_value v n = record { given = v; next = n }

-- a value is needed
abbrev pub valued_term : Env → Want → ℕ → Term → Answer Value
valued_term env want n t = and_then (typed env want n t) (λ x. and_then (value_of x.expr) (λ v. Ok (as_value v x.next)))

abbrev pub accepted_if : Bool → Valued → Answer Valued
accepted_if true v = Ok v
accepted_if false v = not_typed (place_in v.expr)

-- its place gives its type
abbrev pub of_type : Ty → Valued → Answer Valued
of_type ty v = accepted_if (same ty v.of) v

abbrev pub value_as : Env → Ty → ℕ → Term → Answer Value
value_as env ty n t = and_then (valued_term env (inner ty) n t) (λ v. and_then (of_type ty v.given) (λ _. Ok v))

-- the length of an array
abbrev pub length_value : Env → Term → Answer ℤ
length_value env t = and_then (valued_term env nothing 0 t) (λ v. length_rule env.facts v.given)

-- ---- conditions and selectors

-- a branch of an `if` has one test
abbrev pub single_test : Place → Parts → Answer Term
single_test at (part t no_parts) = Ok t
single_test at _ = not_typed at

abbrev pub condition : Env → ℕ → Place → Parts → Answer Value
condition env n at tests = and_then (single_test at tests) (λ t. value_as env type.bool n t)

abbrev pub selector_rule : Valued → Answer Valued
selector_rule v = accepted_if (is_selector v.of) v

-- ---- results

-- a procedure alone has a result
abbrev pub procedure_rule : Place → Inside → Answer ResultPlace
procedure_rule at (a_procedure gives) = Ok gives
procedure_rule at module_code = not_typed at

abbrev pub result_want : Option Ty → Want
result_want None = nothing
result_want (Some ty) = whole ty

abbrev pub type_given : ResultPlace → Option Ty
type_given None = None
type_given (Some place) = Some place.of

abbrev pub given_want : ResultPlace → Want
given_want gives = result_want (type_given gives)

-- what is returned has the type of the result
abbrev pub returned : ResultPlace → Expr → Answer Valued
returned None e = not_typed (place_in e)
returned (Some place) e = and_then (value_of e) (of_type place.of)

-- the result becomes the value; nothing is done where it is the result itself
abbrev pub gives_back : ResultPlace → Node → Expr → Stmt
gives_back gives node e = if is_result gives e then Leave node leaving.Return (one_value e) else Give node true e

abbrev pub gives_last : ResultPlace → Node → Expr → Stmt
gives_last gives node e = if is_result gives e then Idle node (one_value e) else Give node false e

abbrev pub given_if : Bool → ResultPlace → Node → Expr → Answer Stmt
given_if true ends node e = Ok (gives_last ends node e)
given_if false ends node e = not_typed (place_in e)

abbrev pub has_type : ResultPlace → Ty → Bool
has_type None t = false
has_type (Some place) t = same place.of t

abbrev pub evaluated_by : ResultPlace → Node → Expr → Option Ty → Answer Stmt
evaluated_by ends node e None = Ok (discard node e)
evaluated_by ends node e (Some t) = given_if (has_type ends t) ends node e

-- An expression that is a statement gives no value, or it ends a body with a result of its type.
abbrev pub evaluated : (ends : ResultPlace) → Node → Expr → Answer Stmt
evaluated ends node e = evaluated_by ends node e (type_of e)

-- ---- assignments

-- the type that what is written has
abbrev pub is_target : AssignOp → Ty → Bool
is_target sign.Set t = true
is_target sign.Plus t = is_int t
is_target sign.Minus t = is_int t
is_target sign.Times t = is_int t
is_target sign.Join t = is_text t

abbrev pub target_rule : AssignOp → Valued → Answer Valued
target_rule op v = accepted_if (is_target op v.of) v

-- what stands for the term, and whether it can be written
abbrev pub target_at : Env → Term → Valued → Valued
target_at env t v = record v { writable = can_be_written env t v.expr }

-- of the value behind `=`, `+=` and their like
abbrev pub source_want : AssignOp → Ty → Want
source_want sign.Set t = whole t
source_want _ t = inner t

-- a string takes chars too
abbrev pub is_source : AssignOp → Ty → Ty → Bool
is_source sign.Join t type.char = true
is_source op t s = same t s

abbrev pub source_rule : AssignOp → Ty → Valued → Answer Valued
source_rule op t v = accepted_if (is_source op t v.of) v

-- what is assigned to itself stays as it is
abbrev pub assigned : AssignOp → Node → Path → Expr → Stmt
assigned sign.Set node path e = if is_itself path e then Idle node (path_and_value path e) else assign node path e
assigned sign.Plus node path e = update node operator.Add path e
assigned sign.Minus node path e = update node operator.Subtract path e
assigned sign.Times node path e = update node operator.Multiply path e
assigned sign.Join node path e = append node path e

-- ---- what a `for` goes over

abbrev pub element_or : Place → Option Ty → Answer Ty
element_or at (Some t) = Ok t
element_or at None = not_typed at

abbrev pub element_rule : Valued → Answer Ty
element_rule v = element_or (place_in v.expr) (element_type v.of)
