-- The nodes of typed statements are numbered one by one.
use Rattle.std.proofs.Common.{◌≡◌, ℕ, suc, true, false, List, [], ◌∷◌, ◌++◌, refl, sym, ap, subst, ◌∙◌, append_assoc}
use Rattle.std.specs.Prelude.{Bool, Option, Some, None, Ok, Err, if◌then◌else◌}
use Rattle.arc_base.specs.declared.place.Place.{Place}
use Rattle.nim_tree.specs.declared.name.Declared.{Declared}
use Rattle.nim_tree.specs.declared.stmt.AssignOp.{AssignOp}
use Rattle.nim_tree.specs.declared.stmt.AssignOp.TheVariants as sign
use Rattle.nim_tree.specs.declared.stmt.Binding.{Binding}
use Rattle.nim_tree.specs.Terms.{Term, Parts}
use Rattle.nim_tree.specs.Statements.{Definition, Statement, Statements, Branches as TreeBranches}
use Rattle.nim_types.specs.Types.{Ty}
use Rattle.nim_program.specs.declared.expr.Node.{Node}
use Rattle.nim_program.specs.Program as P
use Rattle.nim_program.specs.Program.{Expr, Path, Args, Stmt, Stmts, Label}
use Rattle.nim_program.proofs.ForCallers.{either_way, fresh_same}
use Rattle.nim_program.specs.Folds.{lists, node_numbers, nodes, total_at}
use Rattle.nim_program.specs.Nodes.{path_and_value, selecting, blocks_of}
use Rattle.nim_program.specs.SelfAssignment.{is_itself, is_result}
use Rattle.expr_rules.specs.Env.{Env}
use Rattle.arc_base.specs.Refusal.{and_then}
use Rattle.nim_types.specs.Types.{same}
use Rattle.expr_rules.specs.Answers.{Answer, node, Valued, value_of, valued_by, Want}
use Rattle.expr_rules.specs.Paths.{path_of}
use Rattle.expr_rules.specs.Laws.{NumberedSo}
use Rattle.expr_rules.specs.Numbers.{Run, run_over, run_on}
use Rattle.decl_rules.specs.State.{ResultPlace, Around, State, Step, does, declares, defers, Stated, Blocked, block_of, noting}
use Rattle.decl_rules.specs.Values.{Value, accepted_if, assigned, evaluated_by, given_if, evaluated, has_type, returned, gives_back, gives_last, target_rule}
use Rattle.decl_rules.specs.Values.{source_rule, of_type, is_target, is_source}
use Rattle.decl_rules.specs.Stated.{Branched, Armed}
use Rattle.decl_rules.specs.TypeRules.{IsValue, v_value, IsValueAs, v_of_type}
use Rattle.decl_rules.specs.Rules as R
use Rattle.decl_rules.specs.Rules.{IsVariable, AreVariables, IsDefinition, AreDefinitions, IsConstantOf, AreConstants, IsCondition, IsStated}
use Rattle.decl_rules.specs.Rules.{AreStated, IsBlock, AreBranches, AreArms}
use Rattle.decl_rules.specs.Turns.{in_turn, joined}
use Rattle.decl_rules.specs.Places.{is_procedure}
use Rattle.decl_rules.specs.Nodes.{operand_nodes, each_operand, stmt_nodes, nodes_of, each_block, NodesNumbered, BodyNumbered}
use Rattle.decl_rules.proofs.Places.{run_then, ok_stmt, no_procedure}

-- ---- numbers in a row

alone : {n m : ℕ} {xs : List ℕ} → Run n xs m → Run n (xs ++ []) m
alone h = run_then h run_over

-- ---- steps as a block

more_steps : (steps others : List Step) → nodes_of (block_of (steps ++ others)) ≡ nodes_of (block_of steps) ++ nodes_of (block_of others)
more_steps [] others = refl
more_steps (does s ∷ more) others =
    ap (λ ns. stmt_nodes s ++ ns) (more_steps more others)
    ∙ sym (append_assoc (stmt_nodes s) (nodes_of (block_of more)) (nodes_of (block_of others)))
more_steps (declares k place cursor value ∷ more) others =
    ap (λ ns. k.number ∷ (operand_nodes value ++ ns)) (more_steps more others)
    ∙ ap (λ ns. k.number ∷ ns) (sym (append_assoc (operand_nodes value) (nodes_of (block_of more)) (nodes_of (block_of others))))
more_steps (defers k last ∷ more) others =
    ap (λ ns. k.number ∷ (nodes_of last ++ ns)) (more_steps more others)
    ∙ ap (λ ns. k.number ∷ ns) (sym (append_assoc (nodes_of last) (nodes_of (block_of more)) (nodes_of (block_of others))))

steps_run : {n m k : ℕ} (steps others : List Step) → Run n (nodes_of (block_of steps)) m → Run m (nodes_of (block_of others)) k
    → Run n (nodes_of (block_of (steps ++ others))) k
steps_run {n} {m} {k} steps others h i = subst (λ ns. Run n ns k) (sym (more_steps steps others)) (run_then h i)

-- ---- what rules leave as it is

accepted_same : (b : Bool) (v w : Valued) → accepted_if b v ≡ Ok w → w ≡ v
accepted_same true v w e = cc
accepted_same false v w e = cc

value_one : {v w : Valued} → ◌≡◌ {A = Answer Valued} (Ok v) (Ok w) → v ≡ w
value_one e = cc

value_same : (e : Expr) (t : Option Ty) (v : Valued) → valued_by e t ≡ Ok v → v.expr ≡ e
value_same e None v h = cc
value_same e (Some t) v h = ap (λ (w : Valued). w.expr) (sym (value_one h))

returned_same : (gives : ResultPlace) (e : Expr) (v : Valued) → returned gives e ≡ Ok v → v.expr ≡ e
returned_same None e v h = cc
returned_same (Some place) e v h = by_value (value_of e) refl h
  where
    by_value : (r : Answer Valued) → value_of e ≡ r → and_then r (of_type place.of) ≡ Ok v → v.expr ≡ e
    by_value (Ok w) g h = ap (λ (x : Valued). x.expr) (accepted_same (same place.of w.of) w v h) ∙ value_same e (P.type_of e) w g
    by_value (Err w) g h = cc

-- a path has the same nodes where it is read
read_same : (path : Path) → total_at lists node_numbers false path ≡ total_at lists node_numbers true path
read_same path = sym (either_way lists node_numbers (λ node ty written step. refl) (λ ty written step. refl) path)

fresh_nodes : (read : Bool) (value : Expr) → total_at lists node_numbers read (P.Fresh value) ≡ nodes value
fresh_nodes read value = fresh_same lists node_numbers (λ ty read x. refl) (λ node ty read literal. refl) read value

path_same : (e : Expr) → total_at lists node_numbers false (path_of e) ≡ nodes e
path_same (P.Read path) = read_same path
path_same e = fresh_nodes false e

path_run : {n m : ℕ} (e : Expr) → Run n (nodes e) m → Run n (total_at lists node_numbers false (path_of e)) m
path_run {n} {m} e h = subst (λ ns. Run n ns m) (sym (path_same e)) h

-- ---- values, with what is known of expressions

value_run : NumberedSo → {env : Env} {want : Want} {n : ℕ} {t : Term} {v : Value} → IsValue env want n t v → Run n (nodes v.given.expr) v.next
value_run l {env} {want} {n} {t} (v_value {m = m} {e = e} {v = v} h i) =
    subst (λ x. Run n (nodes x) m) (sym (value_same e (P.type_of e) v i)) (l env want n m t e h)

value_as_run : NumberedSo → {env : Env} {ty : Ty} {n : ℕ} {t : Term} {v : Value} → IsValueAs env ty n t v → Run n (nodes v.given.expr) v.next
value_as_run l (v_of_type h i) = value_run l h

condition_run : NumberedSo → {env : Env} {n : ℕ} {at : Place} {tests : Parts} {v : Value} → IsCondition env n at tests v
    → Run n (nodes v.given.expr) v.next
condition_run l (R.s_condition e h) = value_as_run l h

-- ---- definitions

variable_run : NumberedSo → {a : Around} {at : Place} {b : Binding} {env : Env} {ty : Option Ty} {t : Option Term} {st : State} {d : Declared} {x : Stated}
    → IsVariable a at b env ty t st d x → Run st.node (nodes_of (block_of x.steps)) x.state.node
variable_run l (R.d_initialised (R.d_value h e)) = run_on (alone (alone (value_run l h)))
variable_run l R.d_defaulted = run_on run_over

variables_run : NumberedSo → {a : Around} {at : Place} {b : Binding} {env : Env} {ty : Option Ty} {t : Option Term} {st : State} {ds : List Declared}
    {x : Stated} → AreVariables a at b env ty t st ds x → Run st.node (nodes_of (block_of x.steps)) x.state.node
variables_run l R.d_no_names = run_over
variables_run l (R.d_names {one = one} {more = more} h k) = steps_run one.steps more.steps (variable_run l h) (variables_run l k)

definition_run : NumberedSo → {a : Around} {at : Place} {b : Binding} {st : State} {d : Definition} {x : Stated} → IsDefinition a at b st d x
    → Run st.node (nodes_of (block_of x.steps)) x.state.node
definition_run l (R.d_variables e h k) = variables_run l k

definitions_run : NumberedSo → {a : Around} {at : Place} {b : Binding} {st : State} {all : List Definition} {x : Stated} → AreDefinitions a at b st all x
    → Run st.node (nodes_of (block_of x.steps)) x.state.node
definitions_run l R.d_no_definitions = run_over
definitions_run l (R.d_definitions {one = one} {more = more} h k) = steps_run one.steps more.steps (definition_run l h) (definitions_run l k)

constant_node : {st x : State} {ty : Option Ty} {names : List Declared} {t : Option Term} → IsConstantOf st ty names t x → x.node ≡ st.node
constant_node (R.d_constant h e) = refl
constant_node R.d_no_constant = refl

constants_node : {st x : State} {all : List Definition} → AreConstants st all x → x.node ≡ st.node
constants_node R.d_none_constant = refl
constants_node (R.d_all_constant (R.d_constants e h k) more) = constants_node more ∙ constant_node k

-- ---- statements of one expression

either_nodes : (b : Bool) (s t : Stmt) {ns : List ℕ} → stmt_nodes s ≡ ns → stmt_nodes t ≡ ns → stmt_nodes (if b then s else t) ≡ ns
either_nodes true s t e f = e
either_nodes false s t e f = f

either_run : {n m : ℕ} (b : Bool) (s t : Stmt) → Run n (stmt_nodes s) m → Run n (stmt_nodes t) m → Run n (stmt_nodes (if b then s else t)) m
either_run true s t h k = h
either_run false s t h k = k

assigned_nodes : (op : AssignOp) (k : Node) (path : Path) (e : Expr)
    → stmt_nodes (assigned op k path e) ≡ k.number ∷ operand_nodes (path_and_value path e)
assigned_nodes sign.Set k path e = either_nodes (is_itself path e) _ _ refl refl
assigned_nodes sign.Plus k path e = refl
assigned_nodes sign.Minus k path e = refl
assigned_nodes sign.Times k path e = refl
assigned_nodes sign.Join k path e = refl

-- the nodes of what is written, and those of the value
assigned_run : (st : State) (at : Place) (op : AssignOp) (v w : Value) (target source : Valued) → target_rule op v.given ≡ Ok target
    → source_rule op target.of w.given ≡ Ok source → Run (suc st.node) (nodes v.given.expr) v.next → Run v.next (nodes w.given.expr) w.next
    → Run st.node (stmt_nodes (assigned op (node st.node at) (path_of target.expr) source.expr)) w.next
assigned_run st at op v w target source e g h k =
    let same_target : target.expr ≡ v.given.expr = ap (λ (x : Valued). x.expr) (accepted_same (is_target op v.given.of) v.given target e) in
    let same_source : source.expr ≡ w.given.expr = ap (λ (x : Valued). x.expr) (accepted_same (is_source op target.of w.given.of) w.given source g) in
    subst (λ ns. Run st.node ns w.next) (sym (assigned_nodes op (node st.node at) (path_of target.expr) source.expr))
    (run_on (run_then (path_run target.expr (subst (λ x. Run (suc st.node) (nodes x) v.next) (sym same_target) h))
    (alone (subst (λ x. Run v.next (nodes x) w.next) (sym same_source) k))))

back_run : {n m : ℕ} (gives : ResultPlace) (at : Place) (e : Expr) → Run (suc n) (nodes e) m → Run n (stmt_nodes (gives_back gives (node n at) e)) m
back_run gives at e h = either_run (is_result gives e) _ _ (run_on (alone h)) (run_on h)

last_run : {n m : ℕ} (gives : ResultPlace) (at : Place) (e : Expr) → Run (suc n) (nodes e) m → Run n (stmt_nodes (gives_last gives (node n at) e)) m
last_run gives at e h = either_run (is_result gives e) _ _ (run_on (alone h)) (run_on h)

evaluated_run : (ends : ResultPlace) (n m : ℕ) (at : Place) (e : Expr) (s : Stmt) → evaluated ends (node n at) e ≡ Ok s → Run (suc n) (nodes e) m
    → Run n (stmt_nodes s) m
evaluated_run ends n m at e s h r = by_type (P.type_of e) h
  where
    by_test : (b : Bool) → given_if b ends (node n at) e ≡ Ok s → Run n (stmt_nodes s) m
    by_test true h = subst (λ s. Run n (stmt_nodes s) m) (ok_stmt h) (last_run ends at e r)
    by_test false h = cc

    by_type : (t : Option Ty) → evaluated_by ends (node n at) e t ≡ Ok s → Run n (stmt_nodes s) m
    by_type None h = subst (λ s. Run n (stmt_nodes s) m) (ok_stmt h) (run_on (alone r))
    by_type (Some t) h = by_test (has_type ends t) h

-- ---- branches

-- each condition before its block
data BranchesRun : ℕ → Args → List Stmts → ℕ → Type 0 where
  b_none : {n : ℕ} → BranchesRun n P.NoArg [] n
  b_more : {n m k l : ℕ} {test : Expr} {tests : Args} {block : Stmts} {rest : List Stmts} → Run n (nodes test) m → Run m (nodes_of block) k
      → BranchesRun k tests rest l → BranchesRun n (P.ByValue test tests) (block ∷ rest) l

branches_else : {n m k : ℕ} {tests : Args} {all : List Stmts} (otherwise : Stmts) → BranchesRun n tests all m → Run m (nodes_of otherwise) k
    → Run n (joined (in_turn (each_operand tests) (each_block (blocks_of all otherwise)))) k
branches_else otherwise b_none h = alone h
branches_else otherwise (b_more g i j) h = run_then g (run_then i (branches_else otherwise j h))

data ArmsRun : ℕ → List Stmts → ℕ → Type 0 where
  a_none : {n : ℕ} → ArmsRun n [] n
  a_more : {n m k : ℕ} {block : Stmts} {rest : List Stmts} → Run n (nodes_of block) m → ArmsRun m rest k → ArmsRun n (block ∷ rest) k

arms_else : {n m k : ℕ} {all : List Stmts} (otherwise : Stmts) → ArmsRun n all m → Run m (nodes_of otherwise) k
    → Run n (joined (each_block (blocks_of all otherwise))) k
arms_else otherwise a_none h = alone h
arms_else otherwise (a_more g i) h = run_then g (arms_else otherwise i h)

-- a selector before all blocks
selector_first : (e : Expr) (blocks : List (List ℕ)) → joined (in_turn (each_operand (selecting e P.NoArg)) blocks) ≡ nodes e ++ joined blocks
selector_first (P.Read path) [] = ap (λ ns. ns ++ []) (read_same path)
selector_first (P.Read path) (block ∷ rest) = ap (λ ns. ns ++ (block ++ joined rest)) (read_same path)
selector_first e [] = refl
selector_first e (block ∷ rest) = refl

selected_run : {n m k : ℕ} (e : Expr) (blocks : List (List ℕ)) → Run n (nodes e) m → Run m (joined blocks) k
    → Run n (joined (in_turn (each_operand (selecting e P.NoArg)) blocks)) k
selected_run {n} {m} {k} e blocks g h = subst (λ ns. Run n ns k) (sym (selector_first e blocks)) (run_then g h)

-- ---- statements

noted_node : (b : Bool) (one : Stated) → (noting b one).node ≡ one.state.node
noted_node true one = refl
noted_node false one = refl

mutual
  stated_run : NumberedSo → {a : Around} {ends : ResultPlace} {st : State} {s : Statement} {x : Stated} → IsStated a ends st s x → is_procedure s ≡ false
      → Run st.node (nodes_of (block_of x.steps)) x.state.node
  stated_run l R.s_discard e = run_on run_over
  stated_run l (R.s_discard_value h) e = alone (run_on (alone (value_run l h)))
  stated_run l (R.s_return h) e = run_on run_over
  stated_run l {st = st} (R.s_return_value {gives = gives} {at = at} {t = t} {e = y} {m = m} {v = v} h k r) e =
      alone (back_run gives at v.expr (subst (λ z. Run (suc st.node) (nodes z) m) (sym (returned_same gives y v r)) (l _ _ _ _ t y k)))
  stated_run l (R.s_break h) e = run_on run_over
  stated_run l (R.s_continue h) e = run_on run_over
  stated_run l {ends = ends} {st = st} (R.s_evaluate {at = at} {e = y} {m = m} {s = s} h r) e =
      alone (evaluated_run ends st.node m at y s r (l _ _ _ _ _ y h))
  stated_run l {ends = ends} {st = st} (R.s_command {at = at} {e = y} {m = m} {s = s} h r) e =
      alone (evaluated_run ends st.node m at y s r (l _ _ _ _ _ y h))
  stated_run l {st = st} (R.s_assign {at = at} {op = op} {v = v} {w = w} {target = target} {source = source} h i j k r) e =
      alone (assigned_run st at op v w target source i r (value_run l h) (value_run l k))
  stated_run l {st = st} (R.s_constants {behind = behind} h) e =
      let same : behind.node ≡ st.node = constants_node h in
      subst (λ n. Run n (behind.node ∷ []) (suc behind.node)) same (run_on run_over)
  stated_run l (R.s_variables i h) e = definitions_run l h
  stated_run l (R.s_types h) e = run_on run_over
  stated_run l (R.s_if {o = o} h k) e = alone (run_on (branches_else o.stmts (branches_run l h) (block_run l k)))
  stated_run l (R.s_case {v = v} {o = o} h i k j r) e =
      alone (run_on (selected_run v.given.expr _ (value_run l h) (arms_else o.stmts (arms_run l k) (block_run l j))))
  stated_run l (R.s_while h k) e = alone (run_on (run_then (alone (value_as_run l h)) (block_run l k)))
  stated_run l (R.s_for_each {v = v} h i k) e = alone (run_on (run_then (alone (path_run v.given.expr (value_run l h))) (block_run l k)))
  stated_run l (R.s_for_range r h i k) e = alone (run_on (run_then (run_then (value_as_run l h) (alone (value_as_run l i))) (block_run l k)))
  stated_run l (R.s_procedure h i k) e = cc

  all_run : NumberedSo → {a : Around} {ends : ResultPlace} {st : State} {all : Statements} {x : Stated} → AreStated a ends st all x → a.outermost ≡ false
      → Run st.node (nodes_of (block_of x.steps)) x.state.node
  all_run l R.s_none e = run_over
  all_run l {a} (R.s_more {one = one} {more = more} h k) e =
      steps_run one.steps more.steps (stated_run l h (no_procedure a _ _ _ _ h e))
      (subst (λ n. Run n (nodes_of (block_of more.steps)) more.state.node) (noted_node a.outermost one) (all_run l k e))

  block_run : NumberedSo → {a : Around} {st : State} {body : Statements} {b : Blocked} → IsBlock a st body b → Run st.node (nodes_of b.stmts) b.state.node
  block_run l (R.s_block h) = all_run l h refl

  branches_run : NumberedSo → {a : Around} {st : State} {all : TreeBranches} {b : Branched} → AreBranches a st all b
      → BranchesRun st.node b.tests b.blocks b.state.node
  branches_run l R.s_no_branches = b_none
  branches_run l (R.s_branches h k j) = b_more (condition_run l h) (block_run l k) (branches_run l j)

  arms_run : NumberedSo → {a : Around} {ty : Ty} {before : List Label} {st : State} {all : TreeBranches} {b : Armed} → AreArms a ty before st all b
      → ArmsRun st.node b.blocks b.state.node
  arms_run l R.s_no_arms = a_none
  arms_run l (R.s_arms h k j) = a_more (block_run l k) (arms_run l j)

pub nodes_numbered : NumberedSo → NodesNumbered
nodes_numbered l a ends st s x h e = stated_run l h e

pub body_numbered : NumberedSo → BodyNumbered
body_numbered l gives ends st body x h = all_run l h refl
