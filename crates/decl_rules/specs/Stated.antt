-- The typed statements that stand for a statement, and what is known behind it, as a computation: by the rules of the other files,
-- and `and_then`. The first refusal in order of text counts. Forms that are left out have been refused before; they are refused here
-- too, so that each form has a case.
use Rattle.std.specs.Prelude.{ℕ, suc, Bool, true, false, List, [], ◌∷◌, ◌++◌, Some, None, Ok}
use Rattle.arc_base.specs.declared.place.Place.{Place}
use Rattle.arc_base.specs.declared.place.Code.TheVariants.{LeftOut}
use Rattle.arc_base.specs.Refusal.{and_then, refused}
use Rattle.nim_tree.specs.declared.name.Name.{Name}
use Rattle.nim_tree.specs.declared.stmt.Binding.{Binding}
use Rattle.nim_tree.specs.declared.stmt.Binding.TheVariants as binding
use Rattle.nim_tree.specs.Terms as term
use Rattle.nim_tree.specs.Statements.{each, up_to, below, Statement, discards, returns, raises, breaks, continues, imports, evaluates}
use Rattle.nim_tree.specs.Statements.{assigns, commands, defines, types, branches, selects, repeats, counts, tries, defers, proclaims, Statements, empty, then}
use Rattle.nim_tree.specs.Statements.{Branches, no_branches, branch}
use Rattle.nim_types.specs.Types as type
use Rattle.nim_types.specs.Types.{Ty, Facts}
use Rattle.nim_program.specs.declared.stmt.Leaving.{Leaving}
use Rattle.nim_program.specs.declared.stmt.Leaving.TheVariants as leaving
use Rattle.nim_program.specs.Program.{Label, Args, NoArg, ByValue, ByConditions, ByLabels, While, Count, Each, Stmt, Idle, Leave, Select, Loop, Stmts}
use Rattle.nim_program.specs.Nodes.{one_value, two_values, one_path, selecting, discard, blocks_of}
use Rattle.expr_rules.specs.Answers.{Answer, node, nothing}
use Rattle.expr_rules.specs.Builtins.{write_rule}
use Rattle.expr_rules.specs.Choices.{cover_rule}
use Rattle.expr_rules.specs.Paths.{path_of}
use Rattle.expr_rules.specs.Typed.{typed, labels}
use Rattle.decl_rules.specs.State.{if_typed, ResultPlace, Around, in_body, deeper, looping, State, up_to_node, entered, left, does, Stated, stated_as, did}
use Rattle.decl_rules.specs.State.{noting, and_more, Blocked, closed}
use Rattle.decl_rules.specs.Values.{Value, valued_term, value_as, selector_rule, target_at, condition, procedure_rule, given_want, returned, gives_back}
use Rattle.decl_rules.specs.Values.{evaluated, target_rule, source_want}
use Rattle.decl_rules.specs.Values.{source_rule, assigned, element_rule}
use Rattle.decl_rules.specs.Definitions.{definitions_rule, constants_rule}
use Rattle.decl_rules.specs.Sections.{section_rule}
use Rattle.decl_rules.specs.Heads.{head_rule}
use Rattle.decl_rules.specs.Bodies.{result_of, behind_head, before_body, behind_body, loop_variable, with_loop_variable}

-- ---- rules of statements

abbrev pub has_statements : Statements → Bool
has_statements empty = false
has_statements (then first rest) = true

abbrev pub is_constant : Binding → Bool
is_constant binding.Const = true
is_constant _ = false

-- what the last statement of a body gives
abbrev pub ends_with : ResultPlace → (rest : Statements) → ResultPlace
ends_with ends empty = ends
ends_with ends (then first rest) = None

-- without `else` all values have labels
abbrev pub covered : Facts → Place → Ty → List Label → (otherwise : Statements) → Answer (Unit {0})
covered facts at ty ls empty = cover_rule facts at ty None ls
covered facts at ty ls (then first rest) = Ok tt

-- a section of types or constants is a statement that does nothing, and so is `discard`
abbrev pub passed : State → Place → Stated
passed st at = did st (Idle (node st.node at) NoArg) (suc st.node)

abbrev pub leaves : State → Place → Leaving → Stated
leaves st at l = did st (Leave (node st.node at) l NoArg) (suc st.node)

-- ---- branches

-- of an `if`
pub record Branched : Type 0 where
  pub tests : Args
  pub blocks : List Stmts
  pub state : State

-- of a `case`: labels by branch, and all, with those before
pub record Armed : Type 0 where
  pub rows : List (List Label)
  pub labels : List Label
  pub blocks : List Stmts
  pub state : State

abbrev pub branch_before : Value → Blocked → Branched → Branched
branch_before c b more = record { tests = ByValue c.given.expr more.tests; blocks = b.stmts ∷ more.blocks; state = more.state }

abbrev pub arm_before : List Label → Blocked → Armed → Armed
arm_before ls b more = record { rows = ls ∷ more.rows; labels = more.labels; blocks = b.stmts ∷ more.blocks; state = more.state }

-- ---- statements with blocks, whose parts are typed

abbrev pub one : State → Stmt → Stated
one st s = stated_as (does s ∷ []) st

abbrev pub branched : ℕ → Place → Branched → Blocked → Stated
branched n at b o = one o.state (Select (node n at) ByConditions b.tests (blocks_of b.blocks o.stmts))

abbrev pub selected : ℕ → Place → Value → Armed → Blocked → Stated
selected n at v b o = one o.state (Select (node n at) (ByLabels b.rows) (selecting v.given.expr NoArg) (blocks_of b.blocks o.stmts))

abbrev pub repeated : ℕ → Place → Value → Blocked → Stated
repeated n at c b = one b.state (Loop (node n at) While (one_value c.given.expr) b.stmts)

-- over the elements of a value; over ints
abbrev pub gone_over : ℕ → Place → State → Name → Value → Ty → Blocked → Stated
gone_over n at st x v ty b = one (left st b.state) (Loop (node n at) (Each (loop_variable st x ty)) (one_path (path_of v.given.expr)) b.stmts)

abbrev pub counted : ℕ → Place → State → Name → (first last : Value) → (inclusive : Bool) → Blocked → Stated
counted n at st x v w inclusive b =
    one (left st b.state) (Loop (node n at) (Count (loop_variable st x type.int) inclusive) (two_values v.given.expr w.given.expr) b.stmts)

-- behind what a `for` goes over, with its variable
abbrev pub for_state : State → Value → Name → Ty → State
for_state st v x ty = with_loop_variable (up_to_node st v.next) x ty

-- a block has a scope of its own, which began behind a state
abbrev pub block_by : State → Answer Stated → Answer Blocked
block_by st answer = and_then answer (λ s. Ok (closed st s))

abbrev mutual
  -- `ends` is what it has to give where it is the last statement of a body with a result
  pub stated : Around → (ends : ResultPlace) → State → Statement → Answer Stated
  stated a ends st (discards at None) = Ok (passed st at)
  stated a ends st (discards at (Some t)) =
      and_then (valued_term st.env nothing (suc st.node) t) (λ v. Ok (did st (discard (node st.node at) v.given.expr) v.next))
  stated a ends st (returns at None) =
      and_then (procedure_rule at a.inside) (λ gives. Ok (leaves st at leaving.Return))
  stated a ends st (returns at (Some t)) =
      and_then (procedure_rule at a.inside) (λ gives.
      and_then (typed st.env (given_want gives) (suc st.node) t) (λ x.
      and_then (returned gives x.expr) (λ v. Ok (did st (gives_back gives (node st.node at) v.expr) x.next))))
  stated a ends st (raises at t) = refused LeftOut at
  stated a ends st (breaks at) = and_then (if_typed a.in_loop at) (λ _. Ok (leaves st at leaving.Break))
  stated a ends st (continues at) = and_then (if_typed a.in_loop at) (λ _. Ok (leaves st at leaving.Continue))
  stated a ends st (imports at names) = refused LeftOut at
  stated a ends st (evaluates at t) =
      and_then (typed st.env (given_want ends) (suc st.node) t) (λ x.
      and_then (evaluated ends (node st.node at) x.expr) (λ s. Ok (did st s x.next)))
  stated a ends st (assigns at op t u) =
      and_then (valued_term st.env nothing (suc st.node) t) (λ v.
      and_then (target_rule op v.given) (λ target.
      and_then (write_rule (target_at st.env t target)) (λ _.
      and_then (valued_term st.env (source_want op target.of) v.next u) (λ w.
      and_then (source_rule op target.of w.given) (λ source.
      Ok (did st (assigned op (node st.node at) (path_of target.expr) source.expr) w.next))))))
  stated a ends st (commands at t operands) =
      and_then (typed st.env (given_want ends) (suc st.node) (term.call at t operands)) (λ x.
      and_then (evaluated ends (node st.node at) x.expr) (λ s. Ok (did st s x.next)))
  stated a ends st (defines at binding.Const all) = and_then (constants_rule st all) (λ behind. Ok (passed behind at))
  stated a ends st (defines at b all) = definitions_rule a at b st all
  stated a ends st (types at all) = and_then (section_rule st all) (λ env. Ok (passed (record st { env = env }) at))
  stated a ends st (branches at all otherwise) =
      and_then (all_branches a (up_to_node st (suc st.node)) all) (λ b.
      and_then (block_by b.state (all_stated (deeper a) None (entered b.state) otherwise)) (λ o. Ok (branched st.node at b o)))
  stated a ends st (selects at t all otherwise) =
      and_then (valued_term st.env nothing (suc st.node) t) (λ v.
      and_then (selector_rule v.given) (λ s.
      and_then (all_arms a s.of [] (up_to_node st v.next) all) (λ b.
      and_then (block_by b.state (all_stated (deeper a) None (entered b.state) otherwise)) (λ o.
      and_then (covered st.env.facts at s.of b.labels otherwise) (λ _. Ok (selected st.node at v b o))))))
  stated a ends st (repeats at t body) =
      and_then (value_as st.env type.bool (suc st.node) t) (λ c.
      and_then (block_by (up_to_node st c.next) (all_stated (deeper (looping a)) None (entered (up_to_node st c.next)) body)) (λ b.
      Ok (repeated st.node at c b)))
  stated a ends st (counts at x (each t) body) =
      and_then (valued_term st.env nothing (suc st.node) t) (λ v.
      and_then (element_rule v.given) (λ ty.
      and_then (block_by (for_state st v x ty) (all_stated (deeper (looping a)) None (entered (for_state st v x ty)) body)) (λ b.
      Ok (gone_over st.node at st x v ty b))))
  stated a ends st (counts at x (up_to t u) body) =
      and_then (value_as st.env type.int (suc st.node) t) (λ v.
      and_then (value_as st.env type.int v.next u) (λ w.
      and_then (block_by (for_state st w x type.int) (all_stated (deeper (looping a)) None (entered (for_state st w x type.int)) body)) (λ b.
      Ok (counted st.node at st x v w true b))))
  stated a ends st (counts at x (below t u) body) =
      and_then (value_as st.env type.int (suc st.node) t) (λ v.
      and_then (value_as st.env type.int v.next u) (λ w.
      and_then (block_by (for_state st w x type.int) (all_stated (deeper (looping a)) None (entered (for_state st w x type.int)) body)) (λ b.
      Ok (counted st.node at st x v w false b))))
  stated a ends st (tries at body all finally) = refused LeftOut at
  stated a ends st (defers at body) = refused LeftOut at
  stated a ends st (proclaims at h body) =
      and_then (if_typed a.outermost at) (λ _.
      and_then (head_rule st at h (has_statements body)) (λ k.
      and_then (all_stated (in_body (result_of (behind_head st at h k) h k)) (result_of (behind_head st at h k) h k)
      (before_body (behind_head st at h k) h k) body) (λ s.
      Ok (stated_as [] (behind_body (has_statements body) (behind_head st at h k) at h k s)))))

  pub all_stated : Around → (ends : ResultPlace) → State → Statements → Answer Stated
  all_stated a ends st empty = Ok (stated_as [] st)
  all_stated a ends st (then first rest) =
      and_then (stated a (ends_with ends rest) st first) (λ one.
      and_then (all_stated a ends (noting a.outermost one) rest) (λ more. Ok (and_more one more)))

  -- of an `if`
  pub all_branches : Around → State → Branches → Answer Branched
  all_branches a st no_branches = Ok (record { tests = NoArg; blocks = []; state = st })
  all_branches a st (branch at tests body rest) =
      and_then (condition st.env st.node at tests) (λ c.
      and_then (block_by (up_to_node st c.next) (all_stated (deeper a) None (entered (up_to_node st c.next)) body)) (λ b.
      and_then (all_branches a b.state rest) (λ more. Ok (branch_before c b more))))

  -- of a `case` over values of the type, behind others with these labels
  pub all_arms : Around → Ty → (before : List Label) → State → Branches → Answer Armed
  all_arms a ty before st no_branches = Ok (record { rows = []; labels = before; blocks = []; state = st })
  all_arms a ty before st (branch at tests body rest) =
      and_then (labels st.env ty before tests) (λ ls.
      and_then (block_by st (all_stated (deeper a) None (entered st) body)) (λ b.
      and_then (all_arms a ty (before ++ ls) b.state rest) (λ more. Ok (arm_before ls b more))))
