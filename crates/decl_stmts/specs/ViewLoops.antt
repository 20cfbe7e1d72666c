-- What the rules say of `for` behind its parts. Contracts of the pass alone speak of it.
use Rattle.std.specs.Prelude.{◌≡◌, ℕ, List, [], ◌∷◌, ◌++◌, Bool, true, false, Ok}
use Rattle.arc_base.specs.Refusal.{and_then}
use Rattle.nim_tree.specs.declared.name.Name.{Name}
use Rattle.nim_tree.specs.Statements.{Course, up_to, below, Statements}
use Rattle.nim_tree.specs.Terms.{Term}
use Rattle.nim_types.specs.Types as type
use Rattle.nim_types.specs.Types.{Ty}
use Rattle.nim_program.specs.declared.expr.Node.{Node}
use Rattle.nim_program.specs.Nodes.{one_path, two_values}
use Rattle.nim_program.specs.Program as P
use Rattle.expr_rules.specs.Answers.{Answer}
use Rattle.expr_rules.specs.Paths.{path_of}
use Rattle.decl_rules.specs.State.{Around, State, Stated, stated_as, does, up_to_node, left, Blocked, blocked}
use Rattle.decl_rules.specs.Values.{Value, value_as, element_rule}
use Rattle.decl_rules.specs.Bodies.{loop_variable, with_loop_variable}
use Rattle.nim_types.specs.Table.{type_at}
use Rattle.expr_parts.specs.declared.scope.Decl.{Decl}
use Rattle.decl_parts.specs.declared.state.State.{State as RustState}
use Rattle.decl_parts.specs.View.{Beside, state_of, Ready}
use Rattle.decl_stmts.specs.ViewStated.{block_rule}

-- the body, with the variable in a scope of its own
abbrev pub loop_rule : Around → State → Name → Ty → Statements → Answer Blocked
loop_rule a st x ty body =
    and_then (block_rule a (with_loop_variable st x ty) body) (λ b.
    Ok (blocked b.stmts (left st b.state)))

-- over elements of a type; over a value
abbrev pub each_within : Around → State → Node → Name → Statements → Value → Ty → Answer Stated
each_within a st node x body v ty =
    and_then (loop_rule a (up_to_node st v.next) x ty body) (λ b.
    Ok (stated_as (does (P.Loop node (P.Each (loop_variable st x ty)) (one_path (path_of v.given.expr)) b.stmts) ∷ []) b.state))

abbrev pub each_behind : Around → State → Node → Name → Statements → Value → Answer Stated
each_behind a st node x body v = and_then (element_rule v.given) (λ ty. each_within a st node x body v ty)

-- over ints from one value to another; from one value on
abbrev pub ints_within : Around → State → Node → Name → (inclusive : Bool) → Statements → (first last : Value) → Answer Stated
ints_within a st node x inclusive body v w =
    and_then (loop_rule a (up_to_node st w.next) x type.int body) (λ b.
    Ok (stated_as
    (does (P.Loop node (P.Count (loop_variable st x type.int) inclusive) (two_values v.given.expr w.given.expr) b.stmts) ∷ []) b.state))

abbrev pub ints_behind : Around → State → Node → Name → (inclusive : Bool) → (last : Term) → Statements → Value → Answer Stated
ints_behind a st node x inclusive u body v =
    and_then (value_as st.env type.int v.next u) (λ w. ints_within a st node x inclusive body v w)

abbrev pub course_by : (inclusive : Bool) → (first last : Term) → Course
course_by true t u = up_to t u
course_by false t u = below t u

-- the state in which a loop's variable is declared
pub record Begun (old start : RustState) (x : Name) (ty : ℕ) : Type 0 where
  pub types : start.types ≡ old.types
  pub begins : (more : List Decl) × (start.scope.decls ≡ old.scope.decls ++ more)
  pub ready : Ready start
  pub view : (ts : List Ty) (b : Beside) → state_of ts b start ≡ with_loop_variable (state_of ts b old) x (type_at ts ty)
