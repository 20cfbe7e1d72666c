use Rattle.std.proofs.Common.{◌+◌, ◌<◌, ◌++◌, ◌∷◌, [], ◌∙◌, ℕ, suc, List, Vec, Global, refl, ap}
use Rattle.std.proofs.Common.{drop_of_length-le}
use Rattle.std.proofs.Common.{ap₂, sym, subst, drop, length, None, arith}
use Rattle.std.proofs.lemmas.Result.{err_from_is_err_and}
use Rattle.std.specs.Prelude.{Ok, map}
use Rattle.arc_base.specs.declared.place.Code.TheVariants.{LeftOut, NotTyped}
use Rattle.arc_base.specs.declared.place.Stop.TheVariants as stop
use Rattle.arc_base.specs.Refusal.{and_then}
use Rattle.nim_tree.specs.declared.expr.Expr.{Expr as RustTerm}
use Rattle.nim_tree.specs.declared.stmt.Branch.{Branch as TreeBranch}
use Rattle.nim_tree.specs.declared.stmt.Stmt.{Stmt as Tree}
use Rattle.nim_tree.specs.Statements.{statement_of, statements_of, branches_of as branches_in, course_of, nodes_of, all_nodes, branch_nodes, Statement}
use Rattle.nim_tree.specs.Statements as tree
use Rattle.nim_tree.specs.Terms.{term_of, parts_of}
use Rattle.nim_types.specs.Types as type
use Rattle.nim_types.specs.Types.{Ty, Facts}
use Rattle.nim_types.specs.Table.{type_at, facts_in}
use Rattle.nim_types.specs.declared.types.TypeDef.{TypeDef}
use Rattle.nim_program.specs.declared.stmt.Branch.{Branch as RustBranch}
use Rattle.nim_program.specs.declared.stmt.Stmt.{Stmt as RustStmt}
use Rattle.nim_program.specs.Program as P
use Rattle.nim_program.specs.Program.{Label}
use Rattle.nim_program.specs.Nodes.{one_value, two_values, one_path, selecting, blocks_of}
use Rattle.nim_program.specs.View.{expr_of, path_of as path_in, declared_of, stmts_of, branch_conditions, branch_labels, label_of}
use Rattle.expr_rules.specs.Answers.{Answer, Valued, node}
use Rattle.expr_rules.specs.Env.{Env}
use Rattle.expr_rules.specs.Typed.{labels}
use Rattle.expr_rules.specs.Paths.{path_of}
use Rattle.expr_parts.specs.View.{valued_of}
use Rattle.expr_steps.specs.declared.choices.Tests.{Tests}
use Rattle.expr_parts.proofs.ForCallers.{answers_as, bool_under, bool_below, int_under, int_below}
use Rattle.decl_rules.specs.State.{Around, State, Stated, stated_as, and_more, Blocked, looping, does, up_to_node}
use Rattle.decl_rules.specs.Bodies.{loop_variable}
use Rattle.decl_rules.specs.Values.{Value, value_as, element_rule, selector_rule}
use Rattle.decl_rules.specs.Stated.{Branched, Armed, stated, all_stated, all_branches, all_arms, covered}
use Rattle.decl_parts.specs.View.{around_of, place_of, if_result, bodies_in, arm_bodies_in, state_of, env_in, all_stated_as, Stating}
use Rattle.decl_written.specs.ViewWritten.{numbered_of}
use Rattle.decl_parts.specs.View.{Beside, InsideWithin}
use Rattle.decl_parts.specs.declared.state.State.{State as RustState}
use Rattle.decl_parts.proofs.ForCallers.{inside_more, further_as, further_on, further_same, further_to, further_typed, ready_typed, ready_grown}
use Rattle.decl_parts.proofs.ForCallers.{ready_at, stated_so, stated_from}
use Rattle.decl_parts.proofs.ForCallers.{stated_forgets, stated_refuses, stated_stops, type_stops, stated_goes, type_goes, rule_goes, rule_stops}
use Rattle.decl_parts.proofs.ForCallers.{stated_here, same_state, typing_any, Left}
use Rattle.decl_parts.proofs.ForCallers.{left_whole, left_goes, left_stops, left_ends, nothing_onto, more_onto, onto_end, next_name, steps_onto}
use Rattle.decl_stmts.specs.ViewStated.{block_rule, blocked_as, branched_as, branch_as, OneBranch, branch_rule, branch_behind, choice_behind, listed_stated}
use Rattle.decl_stmts.specs.ViewStated.{repetition_behind, IsPlain}
use Rattle.decl_stmts.proofs.Scopes.{then_others, ready_entered, block_goes, block_stops, branches_onto, branch_onto, branches_done, no_branch_done}
use Rattle.decl_stmts.proofs.Scopes.{branch_more, branch_first}
use Rattle.decl_stmts.specs.ViewLoops.{loop_rule, each_within, each_behind, ints_within, ints_behind, course_by}
use Rattle.decl_stmts.proofs.Scopes.{plain_inside, no_procedure, stated_as_tree, branches_by, repeats_by, selects_by, counts_by, commands_by}
use Rattle.decl_stmts.proofs.Scopes.{defines_by, types_by}
use Rattle.decl_stmts.proofs.Looping.{loop_goes, loop_stops, each_is, course_is, course_as}
use Rattle.decl_stmts.specs.ViewCases.{OneArm, armed_as, arm_as, arm_rule, arm_behind, selection_behind, selection_over, selection_else, covered_by}
use Rattle.decl_stmts.specs.declared.blocks.cases.Arms.{Arms as RustArms}
use Rattle.decl_stmts.specs.declared.blocks.cases.Arm.{Arm}
use Rattle.decl_stmts.proofs.Arming.{arms_onto, arm_onto, arms_done, no_arm_done, arm_more, arm_first, select_is, labels_on, covered_stays}
use Rattle.decl_stmts.proofs.Made.{made_here}
use Rattle.decl_stmts.proofs.blocks.+statements.Goals as goal

-- ---- statements of a block

pub all_stated-loop-tree-init : goal.all_stated-loop-tree-init
all_stated-loop-tree-init t c =
    let none = c.new-all.result.items in
    record {
      light = omega arith;
      left =
          left_whole c.args.state.now (λ ts b. all_stated (around_of ts c.args.around) None (state_of ts b c.args.state.now) (statements_of c.args.trees.now))
          (λ ts. steps_onto ts none) c.requires.ready (λ ts a. nothing_onto ts none a c.new-all.ensures.items);
    }

pub all_stated-loop-tree-preserved : goal.all_stated-loop-tree-preserved
all_stated-loop-tree-preserved t c =
    let at = c.loop-tree in
    let item = c.tree-item.result in
    let e = next_name c.args.trees.now at.tree-index item c.tree-item.is c.loop-tree-test.true in
    let rest = statements_of (drop (at.tree-index + 1) c.args.trees.now) in
    let all = c.append.new.all.items in
    record {
      light = omega (arith, ap (λ (l : List Tree). all_nodes (statements_of l)) e, at.invariant.light);
      left =
          left_goes (λ ts (b : Beside) (y : Stated). all_stated (around_of ts c.args.around) None y.state rest) (λ (ts : List Ty). and_more)
          (λ ts. steps_onto ts all) at.invariant.left
          (λ ts b. ap (λ l. all_stated (around_of ts c.args.around) None (state_of ts b at.state) (statements_of l)) e
          ∙ then_others (around_of ts c.args.around) (state_of ts b at.state) (statement_of item) rest c.requires.inner)
          c.in-Ok.ensures
          (λ ts b a. more_onto ts at.all.items c.in-Ok.more.items all (state_of ts b c.statement.new.state) a c.in_ok-append-in-Ok.ensures.all);
    }

pub all_stated-returns : goal.all_stated-returns
all_stated-returns t c =
    let at = c.loop-tree in
    let e = drop_of_length-le c.args.trees.now c.loop-tree-test.false in
    left_ends (λ ts b (all : Vec RustStmt Global). all_stated_as ts b at.state all.items)
    (λ ts b. stated_as [] (state_of ts b at.state)) at.all at.invariant.left
    (λ ts b. ap (λ l. all_stated (around_of ts c.args.around) None (state_of ts b at.state) (statements_of l)) e)
    (λ ts b. onto_end ts b at.state at.all.items)

pub all_stated-returns-in-Err : goal.all_stated-returns-in-Err
all_stated-returns-in-Err t c =
    let at = c.loop-tree in
    let item = c.tree-item.result in
    let e = next_name c.args.trees.now at.tree-index item c.tree-item.is c.loop-tree-test.true in
    let rest = statements_of (drop (at.tree-index + 1) c.args.trees.now) in
    left_stops (λ ts b (all : Vec RustStmt Global). all_stated_as ts b c.statement.new.state all.items)
    (λ ts (b : Beside) (y : Stated). and_then (all_stated (around_of ts c.args.around) None y.state rest) (λ more. Ok (and_more y more))) at.invariant.left
    (λ ts b. ap (λ l. all_stated (around_of ts c.args.around) None (state_of ts b at.state) (statements_of l)) e
    ∙ then_others (around_of ts c.args.around) (state_of ts b at.state) (statement_of item) rest c.requires.inner)
    c.in-Err.ensures

pub all_stated-returns-in_err-append-in-Ok : goal.all_stated-returns-in_err-append-in-Ok
all_stated-returns-in_err-append-in-Ok t c =
    let p = err_from_is_err_and c.from_residual.result c.from_residual.ensures.1 in
    rw (p.1, p.2) (stated_forgets (λ ts b (all : Vec RustStmt Global). all_stated_as ts b c.statement.new.state all.items)
    (λ ts b. all_stated (around_of ts c.args.around) None (state_of ts b c.args.state.now) (statements_of c.args.trees.now))
    _ (further_on c.loop-tree.invariant.left.further c.in-Ok.ensures.further) c.in_err-append-in-Ok.ensures.memory)

pub all_stated-statement-requires : goal.all_stated-statement-requires
all_stated-statement-requires t c =
    let at = c.loop-tree in
    let left = at.invariant.left in
    let e = next_name c.args.trees.now at.tree-index c.tree-item.result c.tree-item.is c.loop-tree-test.true in (
      omega (arith, c.decreases, ap (λ (l : List Tree). all_nodes (statements_of l)) e, at.invariant.light),
      record {
        ready = left.stands.ready;
        around = inside_more (length c.args.state.now.types) (length at.state.types) c.args.around.inside left.further.length c.requires.around;
        ends = tt;
        plain = plain_inside c.args.around.outermost (statement_of c.tree-item.result) c.requires.inner;
      },
    )

-- ---- a block

pub block-returns-in-Ok : goal.block-returns-in-Ok
block-returns-in-Ok t c =
    let old = c.args.state.now in
    let count = c.count-count.result in
    subst (λ (s : RustState). Stating old s (λ ts b (stmts : Vec RustStmt Global). blocked_as ts b s stmts.items)
    (λ ts b. block_rule (around_of ts c.args.around) (state_of ts b old) (statements_of c.args.trees.now)) (Ok c.in-Ok.stmts)) (sym c.leave.ensures)
    (block_goes (λ ts. around_of ts c.args.around) (λ ts. around_of ts c.deeper.result) (statements_of c.args.trees.now) old c.all_stated.new.state count
    c.in-Ok.stmts c.requires.ready c.count-count.ensures c.deeper.ensures.around c.in-Ok.ensures)

pub block-returns-in-Err : goal.block-returns-in-Err
block-returns-in-Err t c =
    block_stops (λ ts. around_of ts c.args.around) (λ ts. around_of ts c.deeper.result)
    (statements_of c.args.trees.now) c.args.state.now c.all_stated.new.state
    c.count-count.result c.in-Err.stop c.count-count.ensures c.deeper.ensures.around c.in-Err.ensures

pub block-all_stated-requires : goal.block-all_stated-requires
block-all_stated-requires t c = (
  omega (arith, c.decreases),
  (
    ready_entered c.args.state.now c.count-count.result c.count-count.ensures c.requires.ready,
    (subst (InsideWithin (length c.args.state.now.types)) (sym c.deeper.ensures.inside) c.requires.around, c.deeper.ensures.inner),
  ),
)

-- ---- branches

pub all_branches-loop-tree-init : goal.all_branches-loop-tree-init
all_branches-loop-tree-init t c =
    let none = c.new-all.result.items in
    record {
      light = omega arith;
      left =
          left_whole c.args.state.now (λ ts b. all_branches (around_of ts c.args.around) (state_of ts b c.args.state.now) (branches_in c.args.trees.now))
          (λ ts. branches_onto ts none) c.requires.ready (λ ts a. no_branch_done ts none a c.new-all.ensures.items);
    }

pub all_branches-loop-tree-preserved : goal.all_branches-loop-tree-preserved
all_branches-loop-tree-preserved t c =
    let at = c.loop-tree in
    let item = c.tree-item.result in
    let e = next_name c.args.trees.now at.tree-index item c.tree-item.is c.loop-tree-test.true in
    let rest = branches_in (drop (at.tree-index + 1) c.args.trees.now) in
    let all = c.push.new.self.items in
    record {
      light = omega (arith, ap (λ (l : List TreeBranch). branch_nodes (branches_in l)) e, at.invariant.light);
      left =
          left_goes (λ ts (b : Beside) (y : OneBranch). all_branches (around_of ts c.args.around) y.state rest) (λ (ts : List Ty). branch_onto)
          (λ ts. branches_onto ts all) at.invariant.left
          (λ ts b. ap (λ l. all_branches (around_of ts c.args.around) (state_of ts b at.state) (branches_in l)) e
          ∙ branch_first (around_of ts c.args.around) (state_of ts b at.state) item.at (parts_of item.tests.items) (statements_of item.body.items) rest)
          c.in-Ok.ensures (λ ts b a. branch_more ts b c.one_branch.new.state at.all.items all c.in-Ok.one a c.in_ok-push-in-Ok.ensures.items);
    }

pub all_branches-returns : goal.all_branches-returns
all_branches-returns t c =
    let at = c.loop-tree in
    let e = drop_of_length-le c.args.trees.now c.loop-tree-test.false in
    left_ends (λ ts b (all : Vec RustBranch Global). branched_as ts b at.state all.items)
    (λ ts b. record { tests = P.NoArg; blocks = []; state = state_of ts b at.state }) at.all at.invariant.left
    (λ ts b. ap (λ l. all_branches (around_of ts c.args.around) (state_of ts b at.state) (branches_in l)) e)
    (λ ts b. branches_done ts at.all.items (state_of ts b at.state))

pub all_branches-returns-in-Err : goal.all_branches-returns-in-Err
all_branches-returns-in-Err t c =
    let at = c.loop-tree in
    let item = c.tree-item.result in
    let e = next_name c.args.trees.now at.tree-index item c.tree-item.is c.loop-tree-test.true in
    let rest = branches_in (drop (at.tree-index + 1) c.args.trees.now) in
    left_stops (λ ts b (all : Vec RustBranch Global). branched_as ts b c.one_branch.new.state all.items)
    (λ ts (b : Beside) (y : OneBranch). and_then (all_branches (around_of ts c.args.around) y.state rest) (λ more. Ok (branch_onto y more))) at.invariant.left
    (λ ts b. ap (λ l. all_branches (around_of ts c.args.around) (state_of ts b at.state) (branches_in l)) e
    ∙ branch_first (around_of ts c.args.around) (state_of ts b at.state) item.at (parts_of item.tests.items) (statements_of item.body.items) rest)
    c.in-Err.ensures

pub all_branches-returns-in_err-push-in-Ok : goal.all_branches-returns-in_err-push-in-Ok
all_branches-returns-in_err-push-in-Ok t c =
    let p = err_from_is_err_and c.from_residual.result c.from_residual.ensures.1 in
    rw (p.1, p.2) (stated_forgets (λ ts b (all : Vec RustBranch Global). branched_as ts b c.one_branch.new.state all.items)
    (λ ts b. all_branches (around_of ts c.args.around) (state_of ts b c.args.state.now) (branches_in c.args.trees.now))
    stop.Memory (further_on c.loop-tree.invariant.left.further c.in-Ok.ensures.further) refl)

pub all_branches-one_branch-requires : goal.all_branches-one_branch-requires
all_branches-one_branch-requires t c =
    let at = c.loop-tree in
    let e = next_name c.args.trees.now at.tree-index c.tree-item.result c.tree-item.is c.loop-tree-test.true in (
      omega (arith, c.decreases, ap (λ (l : List TreeBranch). branch_nodes (branches_in l)) e, at.invariant.light),
      (
        at.invariant.left.stands.ready,
        inside_more (length c.args.state.now.types) (length at.state.types) c.args.around.inside at.invariant.left.further.length c.requires.around,
      ),
    )

pub one_branch-returns-in-Ok : goal.one_branch-returns-in-Ok
one_branch-returns-in-Ok t c =
    let one = c.args.tree.now in
    let by = λ (ts : List Ty) (b : Beside) (tests : List RustTerm) (body : List Tree).
    branch_rule (around_of ts c.args.around) (state_of ts b c.args.state.now) one.at (parts_of tests) (statements_of body) in
    stated_so (λ ts b. by ts b one.tests.items one.body.items)
    (λ ts b u. ap₂ (by ts b) (sym c.deref.ensures.value) (sym c.deref-in-Ok.ensures.value))
    (type_goes (λ ts (st : State) (x : Value). branch_behind (around_of ts c.args.around) st (statements_of c.deref-in-Ok.result.now) x) c.requires.ready
    c.in-Ok.ensures c.branch_with.ensures)

pub one_branch-returns-in-Err : goal.one_branch-returns-in-Err
one_branch-returns-in-Err t c =
    let one = c.args.tree.now in
    let body = statements_of one.body.items in
    let by = λ (ts : List Ty) (b : Beside) (tests : List RustTerm). branch_rule (around_of ts c.args.around) (state_of ts b c.args.state.now) one.at
    (parts_of tests) body in
    stated_so (λ ts b. by ts b one.tests.items) (λ ts b u. ap (by ts b) (sym c.deref.ensures.value))
    (type_stops (λ ts b one. branch_as ts b c.condition_at.new.state one)
    (λ ts b (x : Value). branch_behind (around_of ts c.args.around) (state_of ts b c.args.state.now) body x) c.in-Err.ensures)

pub one_branch-branch_with-requires : goal.one_branch-branch_with-requires
one_branch-branch_with-requires t c = (
  omega (arith, c.decreases, ap (λ (l : List Tree). all_nodes (statements_of l)) c.deref-in-Ok.ensures.value),
  (
    ready_typed c.in-Ok.ensures c.requires.ready,
    inside_more (length c.args.state.now.types) (length c.condition_at.new.state.types) c.args.around.inside c.in-Ok.ensures.grown.length
        c.requires.around,
  ),
)

pub branch_with-returns-in-Ok : goal.branch_with-returns-in-Ok
branch_with-returns-in-Ok t c =
    let new = c.block.new.state in
    let test = λ (ts : List Ty). expr_of ts c.args.given.value.expr in
    stated_from refl refl refl
    (stated_goes (λ ts b (z : Blocked). Ok (record { test = test ts; block = z.stmts; state = z.state })) c.in-Ok.ensures
    (stated_here new (λ ts b one. branch_as ts b new one) (record { condition = c.args.given.value.expr; body = c.in-Ok.body }) c.in-Ok.ensures.stands.ready))

pub branch_with-returns-in-Err : goal.branch_with-returns-in-Err
branch_with-returns-in-Err t c =
    let test = λ (ts : List Ty). expr_of ts c.args.given.value.expr in
    stated_from refl refl refl
    (stated_stops (λ ts b one. branch_as ts b c.block.new.state one) (λ ts b (z : Blocked). Ok (record { test = test ts; block = z.stmts; state = z.state }))
    c.in-Err.ensures)

pub branch_with-block-requires : goal.branch_with-block-requires
branch_with-block-requires t c =
    (omega (arith, c.decreases), (ready_at c.args.state.now c.args.given.next c.requires.ready, c.requires.around))

-- ---- `if`

pub choice-returns-in-Ok : goal.choice-returns-in-Ok
choice-returns-in-Ok t c = λ ends.
    let old = c.args.state.now in
    let n = node old.node c.args.at in
    let a = λ (ts : List Ty). around_of ts c.args.around in
    let go = λ (ts : List Ty) (b : Beside) (x : Branched). choice_behind (a ts) n (statements_of c.args.otherwise.now) x in
    let by = λ (ts : List Ty) (b : Beside) (k : ℕ). and_then (all_branches (a ts) (up_to_node (state_of ts b old) k) (branches_in c.args.branches.now))
    (go ts b) in
    stated_so (λ ts b. by ts b (suc old.node)) (λ ts b u. ap (by ts b) (sym c.in_ok-next.ensures.next))
    (stated_from refl refl refl (stated_goes go c.in-Ok.ensures c.choice_with.ensures))

pub choice-returns-in-Err : goal.choice-returns-in-Err
choice-returns-in-Err t c = λ ends.
    let old = c.args.state.now in
    let n = node old.node c.args.at in
    let a = λ (ts : List Ty). around_of ts c.args.around in
    let go = λ (ts : List Ty) (b : Beside) (x : Branched). choice_behind (a ts) n (statements_of c.args.otherwise.now) x in
    let by = λ (ts : List Ty) (b : Beside) (k : ℕ). and_then (all_branches (a ts) (up_to_node (state_of ts b old) k) (branches_in c.args.branches.now))
    (go ts b) in
    stated_so (λ ts b. by ts b (suc old.node)) (λ ts b u. ap (by ts b) (sym c.in_ok-next.ensures.next))
    (stated_from refl refl refl (stated_stops (λ ts b s. listed_stated ts b c.all_branches.new.state s) go c.in-Err.ensures))

pub choice-returns-in_err-next : goal.choice-returns-in_err-next
choice-returns-in_err-next t c = λ ends.
    let old = c.args.state.now in
    let p = err_from_is_err_and c.from_residual.result c.from_residual.ensures.1 in
    rw (p.1, p.2) (stated_forgets (λ ts b s. listed_stated ts b old s)
    (λ ts b. stated (around_of ts c.args.around) (ends ts) (state_of ts b old)
    (tree.branches c.args.at (branches_in c.args.branches.now) (statements_of c.args.otherwise.now)))
    _ (further_same old) c.in_err-next.ensures.memory)

pub choice-all_branches-requires : goal.choice-all_branches-requires
choice-all_branches-requires t c =
    (omega (arith, c.decreases), (ready_at c.args.state.now c.in_ok-next.next c.requires.ready, c.requires.around))

pub choice-choice_with-requires : goal.choice-choice_with-requires
choice-choice_with-requires t c = (
  omega (arith, c.decreases),
  (
    c.in-Ok.ensures.stands.ready,
    inside_more (length c.args.state.now.types) (length c.all_branches.new.state.types) c.args.around.inside c.in-Ok.ensures.further.length
        c.requires.around,
  ),
)

pub choice_with-returns-in-Ok : goal.choice_with-returns-in-Ok
choice_with-returns-in-Ok t c =
    let old = c.args.state.now in
    let new = c.block.new.state in
    let all = c.args.all.items in
    let by = λ (ts : List Ty) (otherwise : P.Stmts).
    P.Select c.args.node P.ByConditions (branch_conditions ts all) (blocks_of (bodies_in ts all) otherwise) in
    stated_goes (λ ts b (o : Blocked). Ok (stated_as (does (by ts o.stmts) ∷ []) o.state)) c.in-Ok.ensures
    (made_here new c.choice_of.result (λ ts. does (by ts (stmts_of ts c.in-Ok.stmts.items)) ∷ []) c.list_of.result
    c.in-Ok.ensures.stands.ready c.choice_of.ensures c.list_of.ensures.list c.list_of.ensures.memory)

pub choice_with-returns-in-Err : goal.choice_with-returns-in-Err
choice_with-returns-in-Err t c =
    let all = c.args.all.items in
    stated_stops (λ ts b s. listed_stated ts b c.block.new.state s)
    (λ ts b (o : Blocked). Ok (stated_as
    (does (P.Select c.args.node P.ByConditions (branch_conditions ts all) (blocks_of (bodies_in ts all) o.stmts)) ∷ []) o.state)) c.in-Err.ensures

pub choice_with-block-requires : goal.choice_with-block-requires
choice_with-block-requires t c =
    (omega (arith, c.decreases), (c.requires.ready, c.requires.around))

-- ---- `while`

pub repetition-returns-in-Ok : goal.repetition-returns-in-Ok
repetition-returns-in-Ok t c = λ ends.
    let old = c.args.state.now in
    let n = node old.node c.args.at in
    let body = statements_of c.args.body.now in
    let a = λ (ts : List Ty). looping (around_of ts c.args.around) in
    let go = λ (ts : List Ty) (st : State) (x : Value). repetition_behind (a ts) st n body x in
    let by = λ (ts : List Ty) (b : Beside) (ty : Ty). and_then (value_as (env_in ts old) ty (suc old.node) (term_of c.args.condition.now))
    (go ts (state_of ts b old)) in
    let v = c.in-Ok.ensures in
    stated_so (λ ts b. by ts b type.bool)
    (λ ts b u. ap (by ts b) (sym (bool_under ((further_typed v).over ts (c.repetition_with.ensures.further.over ts u)) c.requires.ready.all.kinds)))
    (type_goes go c.requires.ready v
    (stated_so (λ ts b. go ts (state_of ts b c.value_as_first.new.state) (numbered_of ts c.in-Ok.given))
    (λ ts b u. ap (λ (x : Around). repetition_behind x (state_of ts b c.value_as_first.new.state) n body (numbered_of ts c.in-Ok.given))
    (sym (c.looping.ensures.around ts)))
    c.repetition_with.ensures))

pub repetition-returns-in-Err : goal.repetition-returns-in-Err
repetition-returns-in-Err t c = λ ends.
    let old = c.args.state.now in
    let n = node old.node c.args.at in
    let go = λ (ts : List Ty) (st : State) (x : Value). repetition_behind (looping (around_of ts c.args.around)) st n (statements_of c.args.body.now) x in
    let by = λ (ts : List Ty) (b : Beside) (ty : Ty). and_then (value_as (env_in ts old) ty (suc old.node) (term_of c.args.condition.now))
    (go ts (state_of ts b old)) in
    let v = c.in-Err.ensures in
    stated_so (λ ts b. by ts b type.bool) (λ ts b u. ap (by ts b) (sym (bool_under ((further_typed v).over ts u) c.requires.ready.all.kinds)))
    (type_stops (λ ts b s. listed_stated ts b c.value_as_first.new.state s) (λ ts (b : Beside). go ts (state_of ts b old)) v)

pub repetition-value_as_first-requires-clause-ty : goal.repetition-value_as_first-requires-clause-ty
repetition-value_as_first-requires-clause-ty t c = bool_below c.requires.ready.all.kinds

pub repetition-repetition_with-requires : goal.repetition-repetition_with-requires
repetition-repetition_with-requires t c = (
  omega (arith, c.decreases),
  (
    ready_typed c.in-Ok.ensures c.requires.ready,
    subst (InsideWithin (length c.value_as_first.new.state.types)) (sym c.looping.ensures.inside)
        (inside_more (length c.args.state.now.types) (length c.value_as_first.new.state.types) c.args.around.inside c.in-Ok.ensures.grown.length
        c.requires.around),
  ),
)

pub repetition_with-returns-in-Ok : goal.repetition_with-returns-in-Ok
repetition_with-returns-in-Ok t c =
    let head = λ (ts : List Ty). one_value (expr_of ts c.args.given.value.expr) in
    let by = λ (os : P.Args) (body : P.Stmts). does (P.Loop c.args.node P.While os body) ∷ [] in
    stated_from refl refl refl
    (stated_goes (λ ts b (z : Blocked). Ok (stated_as (by (head ts) z.stmts) z.state)) c.in-Ok.ensures
    (made_here c.block.new.state c.repetition_of.result (λ ts. by (head ts) (stmts_of ts c.in-Ok.stmts.items)) c.list_of.result
    c.in-Ok.ensures.stands.ready
    (λ ts. c.repetition_of.ensures ts ∙ ap (λ os. by os (stmts_of ts c.in-Ok.stmts.items)) (c.in_ok-head.ensures.operands ts))
    c.list_of.ensures.list c.list_of.ensures.memory))

pub repetition_with-returns-in-Err : goal.repetition_with-returns-in-Err
repetition_with-returns-in-Err t c =
    stated_from refl refl refl
    (stated_stops (λ ts b s. listed_stated ts b c.block.new.state s)
    (λ ts b (z : Blocked). Ok (stated_as
    (does (P.Loop c.args.node P.While (one_value (expr_of ts c.args.given.value.expr)) z.stmts) ∷ []) z.state)) c.in-Err.ensures)

pub repetition_with-returns-in_err-head : goal.repetition_with-returns-in_err-head
repetition_with-returns-in_err-head t c =
    let old = c.args.state.now in
    let start = record old { node = c.args.given.next } in
    let p = err_from_is_err_and c.from_residual.result c.from_residual.ensures.1 in
    rw (p.1, p.2) (stated_forgets (λ ts b s. listed_stated ts b start s)
    (λ ts b. repetition_behind (around_of ts c.args.around) (state_of ts b old) c.args.node (statements_of c.args.body.now) (numbered_of ts c.args.given))
    _ (further_as refl (further_same start)) c.in_err-head.ensures.memory)

pub repetition_with-block-requires : goal.repetition_with-block-requires
repetition_with-block-requires t c =
    (omega (arith, c.decreases), (ready_at c.args.state.now c.args.given.next c.requires.ready, c.requires.around))

-- ---- `for`

pub loops::loop_body-returns-in-Ok : goal.loops::loop_body-returns-in-Ok
loops::loop_body-returns-in-Ok t c =
    let old = c.args.state.now in
    let count = c.count-count.result in
    subst (λ (s : RustState). Stating old s (λ ts b (stmts : Vec RustStmt Global). blocked_as ts b s stmts.items)
    (λ ts b. loop_rule (around_of ts c.args.around) (state_of ts b old) c.args.name.now (type_at ts c.args.ty) (statements_of c.args.trees.now))
    (Ok c.in-Ok.stmts)) (sym c.leave.ensures)
    (loop_goes (λ ts. around_of ts c.args.around) c.args.name.now c.args.ty (statements_of c.args.trees.now) old c.begin_loop.new.state c.block.new.state count
    c.in-Ok.stmts c.requires.ready c.count-count.ensures c.in_ok-begin_loop.ensures.begun c.in-Ok.ensures)

pub loops::loop_body-returns-in-Err : goal.loops::loop_body-returns-in-Err
loops::loop_body-returns-in-Err t c =
    loop_stops (λ ts. around_of ts c.args.around) c.args.name.now c.args.ty (statements_of c.args.trees.now) c.args.state.now c.begin_loop.new.state
    c.block.new.state c.in-Err.stop c.in_ok-begin_loop.ensures.begun c.in-Err.ensures

pub loops::loop_body-returns-in_err-begin_loop : goal.loops::loop_body-returns-in_err-begin_loop
loops::loop_body-returns-in_err-begin_loop t c =
    let old = c.args.state.now in
    let new = c.begin_loop.new.state in
    let p = err_from_is_err_and c.from_residual.result c.from_residual.ensures.1 in
    rw (p.1, p.2) (stated_forgets (λ ts b (stmts : Vec RustStmt Global). blocked_as ts b new stmts.items)
    (λ ts b. loop_rule (around_of ts c.args.around) (state_of ts b old) c.args.name.now (type_at ts c.args.ty) (statements_of c.args.trees.now))
    _ (further_to c.begin_loop.ensures.types (further_same old)) c.in_err-begin_loop.ensures.memory)

pub loops::loop_body-block-requires : goal.loops::loop_body-block-requires
loops::loop_body-block-requires t c = (
  omega (arith, c.decreases),
  (
    c.in_ok-begin_loop.ensures.begun.ready,
    subst (λ (d : List TypeDef). InsideWithin (length d) c.args.around.inside) (sym c.begin_loop.ensures.types) c.requires.around,
  ),
)

pub loops::each_typed-returns-in-Ok : goal.loops::each_typed-returns-in-Ok
loops::each_typed-returns-in-Ok t c =
    let old = c.args.state.now in
    let new = c.loop_body.new.state in
    let start = record old { node = c.args.given.next } in
    let a = λ (ts : List Ty). around_of ts c.args.around in
    let place = λ (ts : List Ty) (b : Beside). loop_variable (state_of ts b start) c.args.name.now (type_at ts c.args.ty) in
    let by = λ (p : P.Declared) (q : P.Path) (block : P.Stmts). does (P.Loop c.args.node (P.Each p) (one_path q) block) ∷ [] in
    stated_from refl refl refl
    (stated_goes (λ ts b (z : Blocked). Ok (stated_as
    (by (place ts b) (path_of (expr_of ts c.args.given.value.expr)) z.stmts) z.state))
    c.in-Ok.ensures
    (stated_so (λ ts b. Ok (stated_as (by (place ts b) (path_of (expr_of ts c.args.given.value.expr)) (stmts_of ts c.in-Ok.stmts.items))
    (state_of ts b new)))
    (λ ts b u. ap₂ (λ (p : P.Declared) (q : P.Path). Ok (stated_as (by p q (stmts_of ts c.in-Ok.stmts.items)) (state_of ts b new)))
    (sym (c.in_ok-variable.ensures.place ts
    ∙ ap (λ x. place_of old.place x c.args.name.now.at (type_at ts c.args.ty)) c.as_slice.ensures)) (sym (c.in_ok-path.ensures.path ts)))
    (made_here new c.repetition_of.result (λ ts. by (declared_of ts c.in_ok-variable.variable) (path_in ts c.in_ok-path.path)
    (stmts_of ts c.in-Ok.stmts.items)) c.list_of.result c.in-Ok.ensures.stands.ready
    (λ ts. c.repetition_of.ensures ts
    ∙ ap (λ (os : P.Args). does (P.Loop c.args.node (P.Each (declared_of ts c.in_ok-variable.variable)) os (stmts_of ts c.in-Ok.stmts.items)) ∷ [])
    (c.in_ok-head.ensures.operands ts)) c.list_of.ensures.list c.list_of.ensures.memory)))

pub loops::each_typed-returns-in-Err : goal.loops::each_typed-returns-in-Err
loops::each_typed-returns-in-Err t c =
    let old = c.args.state.now in
    let start = record old { node = c.args.given.next } in
    stated_from refl refl refl
    (stated_stops (λ ts b s. listed_stated ts b c.loop_body.new.state s)
    (λ ts b (z : Blocked). Ok (stated_as
    (does (P.Loop c.args.node (P.Each (loop_variable (state_of ts b start) c.args.name.now (type_at ts c.args.ty)))
    (one_path (path_of (expr_of ts c.args.given.value.expr))) z.stmts) ∷ []) z.state)) c.in-Err.ensures)

pub loops::each_typed-returns-in_err-head : goal.loops::each_typed-returns-in_err-head
loops::each_typed-returns-in_err-head t c =
    let old = c.args.state.now in
    let start = record old { node = c.args.given.next } in
    let p = err_from_is_err_and c.from_residual-in_err-head.result c.from_residual-in_err-head.ensures.1 in
    rw (p.1, p.2) (stated_forgets (λ ts b s. listed_stated ts b start s)
    (λ ts b. each_within (around_of ts c.args.around) (state_of ts b old) c.args.node c.args.name.now (statements_of c.args.body.now)
    (numbered_of ts c.args.given) (type_at ts c.args.ty))
    _ (further_as refl (further_same start)) c.in_err-head.ensures.memory)

pub loops::each_typed-returns-in_err-path : goal.loops::each_typed-returns-in_err-path
loops::each_typed-returns-in_err-path t c =
    let old = c.args.state.now in
    let start = record old { node = c.args.given.next } in
    let p = err_from_is_err_and c.from_residual.result c.from_residual.ensures.1 in
    rw (p.1, p.2) (stated_forgets (λ ts b s. listed_stated ts b start s)
    (λ ts b. each_within (around_of ts c.args.around) (state_of ts b old) c.args.node c.args.name.now (statements_of c.args.body.now)
    (numbered_of ts c.args.given) (type_at ts c.args.ty))
    _ (further_as refl (further_same start)) c.in_err-path.ensures.memory)

pub loops::each_typed-returns-in_err-variable : goal.loops::each_typed-returns-in_err-variable
loops::each_typed-returns-in_err-variable t c =
    let old = c.args.state.now in
    let start = record old { node = c.args.given.next } in
    let p = err_from_is_err_and c.from_residual-in_err-variable.result c.from_residual-in_err-variable.ensures.1 in
    rw (p.1, p.2) (stated_forgets (λ ts b s. listed_stated ts b start s)
    (λ ts b. each_within (around_of ts c.args.around) (state_of ts b old) c.args.node c.args.name.now (statements_of c.args.body.now)
    (numbered_of ts c.args.given) (type_at ts c.args.ty))
    _ (further_as refl (further_same start)) c.in_err-variable.ensures.memory)

pub loops::each_typed-loop_body-requires : goal.loops::each_typed-loop_body-requires
loops::each_typed-loop_body-requires t c =
    (omega (arith, c.decreases), (ready_at c.args.state.now c.args.given.next c.requires.ready, (c.requires.around, c.requires.ty)))

pub loops::each_with-returns-in-Ok : goal.loops::each_with-returns-in-Ok
loops::each_with-returns-in-Ok t c =
    let old = c.args.state.now in
    rule_goes type_at (λ ts (facts : Facts). element_rule (valued_of ts c.args.given.value))
    (λ ts b (ty : Ty). each_within (around_of ts c.args.around) (state_of ts b old) c.args.node c.args.name.now (statements_of c.args.body.now)
    (numbered_of ts c.args.given) ty) c.in-Ok.ensures.answers c.each_typed.ensures

pub loops::each_with-returns-in-Err : goal.loops::each_with-returns-in-Err
loops::each_with-returns-in-Err t c =
    let old = c.args.state.now in
    rule_stops (λ ts b s. listed_stated ts b old s) type_at (λ ts (facts : Facts). element_rule (valued_of ts c.args.given.value))
    (λ ts b (ty : Ty). each_within (around_of ts c.args.around) (state_of ts b old) c.args.node c.args.name.now (statements_of c.args.body.now)
    (numbered_of ts c.args.given) ty) c.in-Err.ensures.answers

pub loops::each_with-element_rule-requires-clause-kinds : goal.loops::each_with-element_rule-requires-clause-kinds
loops::each_with-element_rule-requires-clause-kinds t c = c.requires.ready.all.kinds

pub loops::each_with-each_typed-requires : goal.loops::each_with-each_typed-requires
loops::each_with-each_typed-requires t c =
    (omega (arith, c.decreases), (c.requires.ready, (c.requires.around, c.in-Ok.ensures.within)))

pub loops::each_element-returns-in-Ok : goal.loops::each_element-returns-in-Ok
loops::each_element-returns-in-Ok t c = λ ends.
    let old = c.args.state.now in
    let mid = c.value_first.new.state in
    let n = node old.node c.args.at in
    let go = λ (ts : List Ty) (st : State) (x : Value). each_behind (looping (around_of ts c.args.around)) st n c.args.name.now
    (statements_of c.args.body.now) x in
    stated_so (λ ts b. stated (around_of ts c.args.around) (ends ts) (state_of ts b old)
    (tree.counts c.args.at c.args.name.now (tree.each (term_of c.args.over.now)) (statements_of c.args.body.now)))
    (λ ts b u. each_is (around_of ts c.args.around) (ends ts) (state_of ts b old) c.args.at c.args.name.now (term_of c.args.over.now)
    (statements_of c.args.body.now))
    (type_goes go c.requires.ready c.in-Ok.ensures
    (stated_so (λ ts b. go ts (state_of ts b mid) (numbered_of ts c.in-Ok.given))
    (λ ts b u. ap (λ (x : Around). each_behind x (state_of ts b mid) n c.args.name.now (statements_of c.args.body.now) (numbered_of ts c.in-Ok.given))
    (sym (c.looping.ensures.around ts)))
    c.each_with.ensures))

pub loops::each_element-returns-in-Err : goal.loops::each_element-returns-in-Err
loops::each_element-returns-in-Err t c = λ ends.
    let old = c.args.state.now in
    let n = node old.node c.args.at in
    stated_so (λ ts b. stated (around_of ts c.args.around) (ends ts) (state_of ts b old)
    (tree.counts c.args.at c.args.name.now (tree.each (term_of c.args.over.now)) (statements_of c.args.body.now)))
    (λ ts b u. each_is (around_of ts c.args.around) (ends ts) (state_of ts b old) c.args.at c.args.name.now (term_of c.args.over.now)
    (statements_of c.args.body.now))
    (type_stops (λ ts b s. listed_stated ts b c.value_first.new.state s)
    (λ ts b (x : Value). each_behind (looping (around_of ts c.args.around)) (state_of ts b old) n c.args.name.now
    (statements_of c.args.body.now) x) c.in-Err.ensures)

pub loops::each_element-each_with-requires : goal.loops::each_element-each_with-requires
loops::each_element-each_with-requires t c = (
  omega (arith, c.decreases),
  (
    ready_typed c.in-Ok.ensures c.requires.ready,
    (
      subst (InsideWithin (length c.value_first.new.state.types)) (sym c.looping.ensures.inside)
          (inside_more (length c.args.state.now.types) (length c.value_first.new.state.types) c.args.around.inside c.in-Ok.ensures.grown.length
          c.requires.around),
      c.in-Ok.ensures.fits,
    ),
  ),
)

-- ---- `for` over ints

pub loops::ints_with-returns-in-Ok : goal.loops::ints_with-returns-in-Ok
loops::ints_with-returns-in-Ok t c =
    let old = c.args.state.now in
    let new = c.loop_body.new.state in
    let start = record old { node = c.args.to.next } in
    let from = λ (ts : List Ty). expr_of ts c.args.from.value.expr in
    let to = λ (ts : List Ty). expr_of ts c.args.to.value.expr in
    let kinds = c.requires.ready.all.kinds in
    let place = λ (ts : List Ty) (b : Beside) (ty : Ty). loop_variable (state_of ts b start) c.args.name.now ty in
    let by_place = λ (ts : List Ty) (p : P.Declared) (os : P.Args) (block : P.Stmts). does (P.Loop c.args.node (P.Count p c.args.inclusive) os block) ∷ [] in
    let head = λ (ts : List Ty). two_values (from ts) (to ts) in
    let go = λ (ts : List Ty) (b : Beside) (z : Blocked). Ok (stated_as (by_place ts (place ts b type.int) (head ts) z.stmts) z.state) in
    let by = λ (ts : List Ty) (b : Beside) (ty : Ty). and_then
    (loop_rule (around_of ts c.args.around) (state_of ts b start) c.args.name.now ty (statements_of c.args.body.now)) (go ts b) in
    stated_from refl refl refl
    (stated_so (λ ts b. by ts b type.int)
    (λ ts b u. ap (by ts b) (sym (int_under (c.in-Ok.ensures.further.over ts u) kinds)))
    (stated_goes go c.in-Ok.ensures
    (stated_so (λ ts b. Ok (stated_as (by_place ts (place ts b type.int) (head ts) (stmts_of ts c.in-Ok.stmts.items)) (state_of ts b new)))
    (λ ts b u. ap (λ (p : P.Declared). Ok (stated_as (by_place ts p (head ts) (stmts_of ts c.in-Ok.stmts.items)) (state_of ts b new)))
    (ap (place ts b) (sym (int_under (c.in-Ok.ensures.further.over ts u) kinds)) ∙ sym (c.in_ok-variable.ensures.place ts
    ∙ ap (λ x. place_of old.place x c.args.name.now.at (type_at ts old.scope.kinds.int)) c.as_slice.ensures)))
    (made_here new c.repetition_of.result (λ ts. by_place ts (declared_of ts c.in_ok-variable.variable) (head ts) (stmts_of ts c.in-Ok.stmts.items))
    c.list_of.result c.in-Ok.ensures.stands.ready
    (λ ts. c.repetition_of.ensures ts
    ∙ ap (λ (os : P.Args). by_place ts (declared_of ts c.in_ok-variable.variable) os (stmts_of ts c.in-Ok.stmts.items)) (c.in_ok-head.ensures.operands ts))
    c.list_of.ensures.list c.list_of.ensures.memory))))

pub loops::ints_with-returns-in-Err : goal.loops::ints_with-returns-in-Err
loops::ints_with-returns-in-Err t c =
    let old = c.args.state.now in
    let start = record old { node = c.args.to.next } in
    let go = λ (ts : List Ty) (b : Beside) (z : Blocked). Ok
    (stated_as (does (P.Loop c.args.node (P.Count (loop_variable (state_of ts b start) c.args.name.now type.int) c.args.inclusive)
    (two_values (expr_of ts c.args.from.value.expr) (expr_of ts c.args.to.value.expr)) z.stmts) ∷ []) z.state) in
    let by = λ (ts : List Ty) (b : Beside) (ty : Ty). and_then
    (loop_rule (around_of ts c.args.around) (state_of ts b start) c.args.name.now ty (statements_of c.args.body.now)) (go ts b) in
    stated_from refl refl refl
    (stated_so (λ ts b. by ts b type.int)
    (λ ts b u. ap (by ts b) (sym (int_under (c.in-Err.ensures.further.over ts u) c.requires.ready.all.kinds)))
    (stated_stops (λ ts b s. listed_stated ts b c.loop_body.new.state s) go c.in-Err.ensures))

pub loops::ints_with-returns-in_err-head : goal.loops::ints_with-returns-in_err-head
loops::ints_with-returns-in_err-head t c =
    let old = c.args.state.now in
    let start = record old { node = c.args.to.next } in
    let p = err_from_is_err_and c.from_residual.result c.from_residual.ensures.1 in
    rw (p.1, p.2) (stated_forgets (λ ts b s. listed_stated ts b start s)
    (λ ts b. ints_within (around_of ts c.args.around) (state_of ts b old) c.args.node c.args.name.now c.args.inclusive (statements_of c.args.body.now)
    (numbered_of ts c.args.from) (numbered_of ts c.args.to))
    _ (further_as refl (further_same start)) c.in_err-head.ensures.memory)

pub loops::ints_with-returns-in_err-variable : goal.loops::ints_with-returns-in_err-variable
loops::ints_with-returns-in_err-variable t c =
    let old = c.args.state.now in
    let start = record old { node = c.args.to.next } in
    let p = err_from_is_err_and c.from_residual-in_err-variable.result c.from_residual-in_err-variable.ensures.1 in
    rw (p.1, p.2) (stated_forgets (λ ts b s. listed_stated ts b start s)
    (λ ts b. ints_within (around_of ts c.args.around) (state_of ts b old) c.args.node c.args.name.now c.args.inclusive (statements_of c.args.body.now)
    (numbered_of ts c.args.from) (numbered_of ts c.args.to))
    _ (further_as refl (further_same start)) c.in_err-variable.ensures.memory)

pub loops::ints_with-loop_body-requires : goal.loops::ints_with-loop_body-requires
loops::ints_with-loop_body-requires t c = (
  omega (arith, c.decreases),
  (ready_at c.args.state.now c.args.to.next c.requires.ready, (c.requires.around, int_below c.requires.ready.all.kinds)),
)

pub loops::int_with-returns-in-Ok : goal.loops::int_with-returns-in-Ok
loops::int_with-returns-in-Ok t c =
    let old = c.args.state.now in
    let go = λ (ts : List Ty) (st : State) (w : Value). ints_within (around_of ts c.args.around) st c.args.node c.args.name.now c.args.inclusive
    (statements_of c.args.body.now) (numbered_of ts c.args.from) w in
    let by = λ (ts : List Ty) (b : Beside) (ty : Ty). and_then (value_as (env_in ts old) ty c.args.from.next (term_of c.args.last.now))
    (go ts (state_of ts b old)) in
    let v = c.in-Ok.ensures in
    stated_so (λ ts b. by ts b type.int)
    (λ ts b u. ap (by ts b) (sym (int_under ((further_typed v).over ts (c.ints_with.ensures.further.over ts u)) c.requires.ready.all.kinds)))
    (type_goes go c.requires.ready v c.ints_with.ensures)

pub loops::int_with-returns-in-Err : goal.loops::int_with-returns-in-Err
loops::int_with-returns-in-Err t c =
    let old = c.args.state.now in
    let go = λ (ts : List Ty) (st : State) (w : Value). ints_within (around_of ts c.args.around) st c.args.node c.args.name.now c.args.inclusive
    (statements_of c.args.body.now) (numbered_of ts c.args.from) w in
    let by = λ (ts : List Ty) (b : Beside) (ty : Ty). and_then (value_as (env_in ts old) ty c.args.from.next (term_of c.args.last.now))
    (go ts (state_of ts b old)) in
    let v = c.in-Err.ensures in
    stated_so (λ ts b. by ts b type.int) (λ ts b u. ap (by ts b) (sym (int_under ((further_typed v).over ts u) c.requires.ready.all.kinds)))
    (type_stops (λ ts b s. listed_stated ts b c.value_as_at.new.state s) (λ ts (b : Beside). go ts (state_of ts b old)) v)

pub loops::int_with-value_as_at-requires-clause-ty : goal.loops::int_with-value_as_at-requires-clause-ty
loops::int_with-value_as_at-requires-clause-ty t c = int_below c.requires.ready.all.kinds

pub loops::int_with-ints_with-requires : goal.loops::int_with-ints_with-requires
loops::int_with-ints_with-requires t c = (
  omega (arith, c.decreases),
  (
    ready_typed c.in-Ok.ensures c.requires.ready,
    inside_more (length c.args.state.now.types) (length c.value_as_at.new.state.types) c.args.around.inside c.in-Ok.ensures.grown.length
        c.requires.around,
  ),
)

pub loops::each_int-returns-in-Ok : goal.loops::each_int-returns-in-Ok
loops::each_int-returns-in-Ok t c = λ ends.
    let old = c.args.state.now in
    let mid = c.value_as_first.new.state in
    let n = node old.node c.args.at in
    let go = λ (ts : List Ty) (st : State) (x : Value). ints_behind (looping (around_of ts c.args.around)) st n c.args.name.now c.args.inclusive
    (term_of c.args.last.now)
    (statements_of c.args.body.now) x in
    let by = λ (ts : List Ty) (b : Beside) (ty : Ty). and_then (value_as (env_in ts old) ty (suc old.node) (term_of c.args.first.now))
    (go ts (state_of ts b old)) in
    let v = c.in-Ok.ensures in
    stated_so (λ ts b. stated (around_of ts c.args.around) (ends ts) (state_of ts b old)
    (tree.counts c.args.at c.args.name.now (course_by c.args.inclusive (term_of c.args.first.now) (term_of c.args.last.now)) (statements_of c.args.body.now)))
    (λ ts b u. course_is (around_of ts c.args.around) (ends ts) (state_of ts b old) c.args.at c.args.name.now c.args.inclusive (term_of c.args.first.now)
    (term_of c.args.last.now) (statements_of c.args.body.now)
    ∙ ap (by ts b) (sym (int_under ((further_typed v).over ts (c.int_with.ensures.further.over ts u)) c.requires.ready.all.kinds)))
    (type_goes go c.requires.ready v
    (stated_so (λ ts b. go ts (state_of ts b mid) (numbered_of ts c.in-Ok.from))
    (λ ts b u. ap (λ (x : Around). ints_behind x (state_of ts b mid) n c.args.name.now c.args.inclusive (term_of c.args.last.now)
    (statements_of c.args.body.now)
    (numbered_of ts c.in-Ok.from)) (sym (c.looping.ensures.around ts)))
    c.int_with.ensures))

pub loops::each_int-returns-in-Err : goal.loops::each_int-returns-in-Err
loops::each_int-returns-in-Err t c = λ ends.
    let old = c.args.state.now in
    let n = node old.node c.args.at in
    let go = λ (ts : List Ty) (st : State) (x : Value). ints_behind (looping (around_of ts c.args.around)) st n c.args.name.now c.args.inclusive
    (term_of c.args.last.now)
    (statements_of c.args.body.now) x in
    let by = λ (ts : List Ty) (b : Beside) (ty : Ty). and_then (value_as (env_in ts old) ty (suc old.node) (term_of c.args.first.now))
    (go ts (state_of ts b old)) in
    let v = c.in-Err.ensures in
    stated_so (λ ts b. stated (around_of ts c.args.around) (ends ts) (state_of ts b old)
    (tree.counts c.args.at c.args.name.now (course_by c.args.inclusive (term_of c.args.first.now) (term_of c.args.last.now)) (statements_of c.args.body.now)))
    (λ ts b u. course_is (around_of ts c.args.around) (ends ts) (state_of ts b old) c.args.at c.args.name.now c.args.inclusive (term_of c.args.first.now)
    (term_of c.args.last.now) (statements_of c.args.body.now)
    ∙ ap (by ts b) (sym (int_under ((further_typed v).over ts u) c.requires.ready.all.kinds)))
    (type_stops (λ ts b s. listed_stated ts b c.value_as_first.new.state s) (λ ts (b : Beside). go ts (state_of ts b old)) v)

pub loops::each_int-value_as_first-requires-clause-ty : goal.loops::each_int-value_as_first-requires-clause-ty
loops::each_int-value_as_first-requires-clause-ty t c = int_below c.requires.ready.all.kinds

pub loops::each_int-int_with-requires : goal.loops::each_int-int_with-requires
loops::each_int-int_with-requires t c = (
  omega (arith, c.decreases),
  (
    ready_typed c.in-Ok.ensures c.requires.ready,
    subst (InsideWithin (length c.value_as_first.new.state.types)) (sym c.looping.ensures.inside)
        (inside_more (length c.args.state.now.types) (length c.value_as_first.new.state.types) c.args.around.inside c.in-Ok.ensures.grown.length
        c.requires.around),
  ),
)

pub each-returns-in-Each : goal.each-returns-in-Each
each-returns-in-Each t c = λ ends.
    course_as (λ ts. around_of ts c.args.around) ends c.args.at c.args.name.now (statements_of c.args.body.now) (ap course_of c.in-Each.is)
    (c.each_element.ensures ends)

pub each-returns-in-UpTo : goal.each-returns-in-UpTo
each-returns-in-UpTo t c = λ ends.
    course_as (λ ts. around_of ts c.args.around) ends c.args.at c.args.name.now (statements_of c.args.body.now) (ap course_of c.in-UpTo.is)
    (c.each_int.ensures ends)

pub each-returns-in-Below : goal.each-returns-in-Below
each-returns-in-Below t c = λ ends.
    course_as (λ ts. around_of ts c.args.around) ends c.args.at c.args.name.now (statements_of c.args.body.now) (ap course_of c.in-Below.is)
    (c.each_int-in-Below.ensures ends)

pub each-each_element-requires : goal.each-each_element-requires
each-each_element-requires t c =
    (omega (arith, c.decreases), (c.requires.ready, c.requires.around))

pub each-each_int-requires : goal.each-each_int-requires
each-each_int-requires t c =
    (omega (arith, c.decreases), (c.requires.ready, c.requires.around))

pub each-each_int-requires-in-Below : goal.each-each_int-requires-in-Below
each-each_int-requires-in-Below t c =
    (omega (arith, c.decreases), (c.requires.ready, c.requires.around))

-- ---- statements

pub statement-returns-in-Discard : goal.statement-returns-in-Discard
statement-returns-in-Discard t c =
    stated_as_tree (λ ts. around_of ts c.args.around) (λ ts. if_result ts c.args.ends)
    (ap statement_of c.in-Discard.is)
    (c.discard.ensures (λ ts. around_of ts c.args.around) (λ ts. if_result ts c.args.ends))

pub statement-returns-in-Return : goal.statement-returns-in-Return
statement-returns-in-Return t c =
    stated_as_tree (λ ts. around_of ts c.args.around) (λ ts. if_result ts c.args.ends)
    (ap statement_of c.in-Return.is)
    (c.return_by.ensures (λ ts. if_result ts c.args.ends))

pub statement-returns-in-Break : goal.statement-returns-in-Break
statement-returns-in-Break t c =
    stated_as_tree (λ ts. around_of ts c.args.around) (λ ts. if_result ts c.args.ends)
    (ap statement_of c.in-Break.is)
    (c.break_loop.ensures (λ ts. if_result ts c.args.ends))

pub statement-returns-in-Continue : goal.statement-returns-in-Continue
statement-returns-in-Continue t c =
    stated_as_tree (λ ts. around_of ts c.args.around) (λ ts. if_result ts c.args.ends)
    (ap statement_of c.in-Continue.is)
    (c.continue_loop.ensures (λ ts. if_result ts c.args.ends))

pub statement-returns-in-Eval : goal.statement-returns-in-Eval
statement-returns-in-Eval t c =
    stated_as_tree (λ ts. around_of ts c.args.around) (λ ts. if_result ts c.args.ends)
    (ap statement_of c.in-Eval.is)
    (c.evaluate.ensures (λ ts. around_of ts c.args.around))

pub statement-returns-in-Assign : goal.statement-returns-in-Assign
statement-returns-in-Assign t c =
    stated_as_tree (λ ts. around_of ts c.args.around) (λ ts. if_result ts c.args.ends)
    (ap statement_of c.in-Assign.is)
    (c.assign.ensures (λ ts. around_of ts c.args.around) (λ ts. if_result ts c.args.ends))

pub statement-returns-in-Command : goal.statement-returns-in-Command
statement-returns-in-Command t c =
    stated_as_tree (λ ts. around_of ts c.args.around) (λ ts. if_result ts c.args.ends)
    (commands_by (ap statement_of c.in-Command.is) c.deref.ensures.value)
    (c.command.ensures (λ ts. around_of ts c.args.around))

pub statement-returns-in-Types : goal.statement-returns-in-Types
statement-returns-in-Types t c =
    stated_as_tree (λ ts. around_of ts c.args.around) (λ ts. if_result ts c.args.ends)
    (types_by (ap statement_of c.in-Types.is) c.deref-in-Types.ensures.value)
    (c.type_section.ensures (λ ts. around_of ts c.args.around) (λ ts. if_result ts c.args.ends))

pub statement-returns-in-Define : goal.statement-returns-in-Define
statement-returns-in-Define t c =
    stated_as_tree (λ ts. around_of ts c.args.around) (λ ts. if_result ts c.args.ends)
    (defines_by (ap statement_of c.in-Define.is) c.deref-in-Define.ensures.value)
    (c.defined.ensures (λ ts. if_result ts c.args.ends))

pub statement-returns-in-If : goal.statement-returns-in-If
statement-returns-in-If t c =
    stated_as_tree (λ ts. around_of ts c.args.around) (λ ts. if_result ts c.args.ends)
    (branches_by (ap statement_of c.in-If.is) c.branches.ensures c.closing.ensures)
    (c.choice.ensures (λ ts. if_result ts c.args.ends))

pub statement-returns-in-While : goal.statement-returns-in-While
statement-returns-in-While t c =
    stated_as_tree (λ ts. around_of ts c.args.around) (λ ts. if_result ts c.args.ends)
    (repeats_by (ap statement_of c.in-While.is) c.body.ensures)
    (c.repetition.ensures (λ ts. if_result ts c.args.ends))

pub statement-returns-in-Case : goal.statement-returns-in-Case
statement-returns-in-Case t c =
    stated_as_tree (λ ts. around_of ts c.args.around) (λ ts. if_result ts c.args.ends)
    (selects_by (ap statement_of c.in-Case.is) c.branches-all.ensures c.closing-in-Case.ensures)
    (c.selection.ensures (λ ts. if_result ts c.args.ends))

pub statement-returns-in-For : goal.statement-returns-in-For
statement-returns-in-For t c =
    stated_as_tree (λ ts. around_of ts c.args.around) (λ ts. if_result ts c.args.ends)
    (counts_by (ap statement_of c.in-For.is) c.body-in-For.ensures)
    (c.each.ensures (λ ts. if_result ts c.args.ends))

pub statement-returns-in-Raise : goal.statement-returns-in-Raise
statement-returns-in-Raise t c =
    let old = c.args.state.now in
    let by = λ (ts : List Ty) (b : Beside) (s : Statement). stated (around_of ts c.args.around) (if_result ts c.args.ends) (state_of ts b old) s in
    stated_refuses (λ ts b (all : Vec RustStmt Global). all_stated_as ts b old all.items)
    (λ ts b. by ts b (statement_of c.args.tree.now)) LeftOut _ c.refusal.result
    (further_same old) c.refusal.ensures (λ ts b u. ap (by ts b) (ap statement_of c.in-Raise.is))

pub statement-returns-in-Import : goal.statement-returns-in-Import
statement-returns-in-Import t c =
    let old = c.args.state.now in
    let by = λ (ts : List Ty) (b : Beside) (s : Statement). stated (around_of ts c.args.around) (if_result ts c.args.ends) (state_of ts b old) s in
    stated_refuses (λ ts b (all : Vec RustStmt Global). all_stated_as ts b old all.items)
    (λ ts b. by ts b (statement_of c.args.tree.now)) LeftOut _ c.refusal-in-Import.result
    (further_same old) c.refusal-in-Import.ensures (λ ts b u. ap (by ts b) (ap statement_of c.in-Import.is))

pub statement-returns-in-Try : goal.statement-returns-in-Try
statement-returns-in-Try t c =
    let old = c.args.state.now in
    let by = λ (ts : List Ty) (b : Beside) (s : Statement). stated (around_of ts c.args.around) (if_result ts c.args.ends) (state_of ts b old) s in
    stated_refuses (λ ts b (all : Vec RustStmt Global). all_stated_as ts b old all.items)
    (λ ts b. by ts b (statement_of c.args.tree.now)) LeftOut _ c.refusal-in-Try.result
    (further_same old) c.refusal-in-Try.ensures (λ ts b u. ap (by ts b) (ap statement_of c.in-Try.is))

pub statement-returns-in-Defer : goal.statement-returns-in-Defer
statement-returns-in-Defer t c =
    let old = c.args.state.now in
    let by = λ (ts : List Ty) (b : Beside) (s : Statement). stated (around_of ts c.args.around) (if_result ts c.args.ends) (state_of ts b old) s in
    stated_refuses (λ ts b (all : Vec RustStmt Global). all_stated_as ts b old all.items)
    (λ ts b. by ts b (statement_of c.args.tree.now)) LeftOut _ c.refusal-in-Defer.result
    (further_same old) c.refusal-in-Defer.ensures (λ ts b u. ap (by ts b) (ap statement_of c.in-Defer.is))

pub statement-returns-in-Proc : goal.statement-returns-in-Proc
statement-returns-in-Proc t c =
    let old = c.args.state.now in
    let by = λ (ts : List Ty) (b : Beside) (s : Statement). stated (around_of ts c.args.around) (if_result ts c.args.ends) (state_of ts b old) s in
    let is = ap statement_of c.in-Proc.is in
    stated_refuses (λ ts b (all : Vec RustStmt Global). all_stated_as ts b old all.items) (λ ts b. by ts b (statement_of c.args.tree.now)) NotTyped _
    c.refusal-in-Proc.result (further_same old) c.refusal-in-Proc.ensures
    (λ ts b u. ap (by ts b) is ∙ no_procedure c.args.around.outermost _ _ _ _ (subst (IsPlain c.args.around.outermost) is c.requires.plain))

pub statement-choice-requires : goal.statement-choice-requires
statement-choice-requires t c = (
  omega (arith, c.decreases, ap nodes_of (branches_by (ap statement_of c.in-If.is) c.branches.ensures c.closing.ensures)),
  (c.requires.ready, c.requires.around),
)

pub statement-repetition-requires : goal.statement-repetition-requires
statement-repetition-requires t c = (
  omega (arith, c.decreases, ap nodes_of (repeats_by (ap statement_of c.in-While.is) c.body.ensures)),
  (c.requires.ready, c.requires.around),
)

pub statement-selection-requires : goal.statement-selection-requires
statement-selection-requires t c = (
  omega (arith, c.decreases, ap nodes_of (selects_by (ap statement_of c.in-Case.is) c.branches-all.ensures c.closing-in-Case.ensures)),
  (c.requires.ready, c.requires.around),
)

pub statement-each-requires : goal.statement-each-requires
statement-each-requires t c = (
  omega (arith, c.decreases, ap nodes_of (counts_by (ap statement_of c.in-For.is) c.body-in-For.ensures)),
  (c.requires.ready, c.requires.around),
)

-- ---- `case`

pub cases::all_arms-loop-tree-init : goal.cases::all_arms-loop-tree-init
cases::all_arms-loop-tree-init t c =
    let old = c.args.state.now in
    let none = c.new-all.result.items in
    let rule = λ (ts : List Ty) (b : Beside) (ls : List Label). all_arms (around_of ts c.args.around) (type_at ts c.args.ty) ls (state_of ts b old)
    (branches_in c.args.trees.now) in
    record {
      light = omega arith;
      left =
          subst (λ (ls : List Label). Left old old (λ ts b. rule ts b []) (λ ts b. rule ts b ls) (λ ts. arms_onto ts none)) (sym c.new-labels.ensures)
          (left_whole old (λ ts b. rule ts b []) (λ ts. arms_onto ts none) c.requires.ready (λ ts x. no_arm_done ts none x c.new-all.ensures.items));
    }

pub cases::all_arms-loop-tree-preserved : goal.cases::all_arms-loop-tree-preserved
cases::all_arms-loop-tree-preserved t c =
    let at = c.loop-tree in
    let item = c.tree-item.result in
    let e = next_name c.args.trees.now at.tree-index item c.tree-item.is c.loop-tree-test.true in
    let rest = branches_in (drop (at.tree-index + 1) c.args.trees.now) in
    let all = c.push.new.self.items in
    let a = λ (ts : List Ty). around_of ts c.args.around in
    let before = at.labels in
    record {
      light = omega (arith, ap (λ (l : List TreeBranch). branch_nodes (branches_in l)) e, at.invariant.light);
      left =
          subst (λ (ls : List Label). Left c.args.state.now c.one_arm.new.state
          (λ ts b. all_arms (a ts) (type_at ts c.args.ty) [] (state_of ts b c.args.state.now) (branches_in c.args.trees.now))
          (λ ts b. all_arms (a ts) (type_at ts c.args.ty) ls (state_of ts b c.one_arm.new.state) rest) (λ ts. arms_onto ts all)) (sym c.in-Ok.ensures.labels)
          (left_goes (λ ts (b : Beside) (y : OneArm). all_arms (a ts) (type_at ts c.args.ty) (before ++ y.own) y.state rest) (λ (ts : List Ty). arm_onto)
          (λ ts. arms_onto ts all) at.invariant.left
          (λ ts b. ap (λ l. all_arms (a ts) (type_at ts c.args.ty) before (state_of ts b at.state) (branches_in l)) e
          ∙ arm_first (a ts) (type_at ts c.args.ty) before (state_of ts b at.state) item.at (parts_of item.tests.items) (statements_of item.body.items) rest)
          c.in-Ok.ensures.arm (λ ts b more. arm_more ts b c.one_arm.new.state at.all.items all c.in-Ok.arm more c.in_ok-push-in-Ok.ensures.items));
    }

pub cases::all_arms-returns : goal.cases::all_arms-returns
cases::all_arms-returns t c =
    let at = c.loop-tree in
    let e = drop_of_length-le c.args.trees.now c.loop-tree-test.false in
    left_ends (λ ts b (arms : RustArms). armed_as ts b at.state arms)
    (λ ts b. record { rows = []; labels = at.labels; blocks = []; state = state_of ts b at.state })
    (record { all = at.all; labels = at.labels }) at.invariant.left
    (λ ts b. ap (λ l. all_arms (around_of ts c.args.around) (type_at ts c.args.ty) at.labels (state_of ts b at.state) (branches_in l)) e)
    (λ ts b. arms_done ts at.all.items at.labels (state_of ts b at.state))

pub cases::all_arms-returns-in-Err : goal.cases::all_arms-returns-in-Err
cases::all_arms-returns-in-Err t c =
    let at = c.loop-tree in
    let item = c.tree-item.result in
    let e = next_name c.args.trees.now at.tree-index item c.tree-item.is c.loop-tree-test.true in
    let rest = branches_in (drop (at.tree-index + 1) c.args.trees.now) in
    let a = λ (ts : List Ty). around_of ts c.args.around in
    let before = at.labels in
    left_stops (λ ts b (arms : RustArms). armed_as ts b c.one_arm.new.state arms)
    (λ ts (b : Beside) (y : OneArm). and_then (all_arms (a ts) (type_at ts c.args.ty) (before ++ y.own) y.state rest) (λ more. Ok (arm_onto y more)))
    at.invariant.left
    (λ ts b. ap (λ l. all_arms (a ts) (type_at ts c.args.ty) before (state_of ts b at.state) (branches_in l)) e
    ∙ arm_first (a ts) (type_at ts c.args.ty) before (state_of ts b at.state) item.at (parts_of item.tests.items) (statements_of item.body.items) rest)
    c.in-Err.ensures.arm

pub cases::all_arms-returns-in_err-push-in-Ok : goal.cases::all_arms-returns-in_err-push-in-Ok
cases::all_arms-returns-in_err-push-in-Ok t c =
    let p = err_from_is_err_and c.from_residual.result c.from_residual.ensures.1 in
    rw (p.1, p.2) (stated_forgets (λ ts b (arms : RustArms). armed_as ts b c.one_arm.new.state arms)
    (λ ts b. all_arms (around_of ts c.args.around) (type_at ts c.args.ty) [] (state_of ts b c.args.state.now) (branches_in c.args.trees.now))
    stop.Memory (further_on c.loop-tree.invariant.left.further c.in-Ok.ensures.arm.further) refl)

pub cases::all_arms-one_arm-requires : goal.cases::all_arms-one_arm-requires
cases::all_arms-one_arm-requires t c =
    let at = c.loop-tree in
    let l = at.invariant.left.further.length in
    let e = next_name c.args.trees.now at.tree-index c.tree-item.result c.tree-item.is c.loop-tree-test.true in (
      omega (arith, c.decreases, ap (λ (k : List TreeBranch). branch_nodes (branches_in k)) e, at.invariant.light),
      (
        at.invariant.left.stands.ready,
        (
          inside_more (length c.args.state.now.types) (length at.state.types) c.args.around.inside l c.requires.around,
          omega (arith, l, c.requires.ty),
        ),
      ),
    )

pub cases::one_arm-returns-in-Ok : goal.cases::one_arm-returns-in-Ok
cases::one_arm-returns-in-Ok t c =
    let old = c.args.state.now in
    let mid = record old { types = c.type_labels.new.types } in
    let one = c.args.tree.now in
    let tests = parts_of c.deref.result.now in
    let body = statements_of c.deref-in-Ok.result.now in
    let by = λ (ts : List Ty) (b : Beside) (l : List RustTerm) (body : List Tree).
    arm_rule (around_of ts c.args.around) (type_at ts c.args.ty) c.args.before (state_of ts b old) (parts_of l) (statements_of body) in
    record {
      arm =
          stated_so (λ ts b. by ts b one.tests.items one.body.items)
          (λ ts b u. ap₂ (by ts b) (sym c.deref.ensures.value) (sym c.deref-in-Ok.ensures.value))
          (type_goes {part = λ (ts : List Ty) (all : Tests). map label_of all.own} {x = c.in-Ok.tests}
          (λ ts (st : State) (ls : List Label). arm_behind (around_of ts c.args.around) st body ls) c.requires.ready
          (typing_any {old = old} {new = mid} (λ ts (env : Env). labels env (type_at ts c.args.ty) c.args.before tests) c.type_labels.ensures.grown refl
          c.in-Ok.ensures.answers) c.arm_with.ensures.arm);
      labels = labels_on c.args.before c.in-Ok.tests c.arm_with.result c.arm_with.ensures.labels c.arm_with.ensures.own c.in-Ok.ensures.all;
    }

pub cases::one_arm-returns-in-Err : goal.cases::one_arm-returns-in-Err
cases::one_arm-returns-in-Err t c =
    let old = c.args.state.now in
    let mid = record old { types = c.type_labels.new.types } in
    let one = c.args.tree.now in
    let body = statements_of one.body.items in
    let by = λ (ts : List Ty) (b : Beside) (l : List RustTerm).
    arm_rule (around_of ts c.args.around) (type_at ts c.args.ty) c.args.before (state_of ts b old) (parts_of l) body in
    record {
      arm =
          stated_so (λ ts b. by ts b one.tests.items) (λ ts b u. ap (by ts b) (sym c.deref.ensures.value))
          (type_stops {part = λ (ts : List Ty) (all : Tests). map label_of all.own} (λ ts b (arm : Arm). arm_as ts b mid arm)
          (λ ts b (ls : List Label). arm_behind (around_of ts c.args.around) (state_of ts b old) body ls)
          (typing_any {old = old} {new = mid} (λ ts (env : Env). labels env (type_at ts c.args.ty) c.args.before (parts_of c.deref.result.now))
          c.type_labels.ensures.grown refl c.in-Err.ensures.answers));
      labels = tt;
    }

pub cases::one_arm-arm_with-requires : goal.cases::one_arm-arm_with-requires
cases::one_arm-arm_with-requires t c =
    let old = c.args.state.now in
    let g = c.type_labels.ensures.grown in (
      omega (arith, c.decreases, ap (λ (l : List Tree). all_nodes (statements_of l)) c.deref-in-Ok.ensures.value),
      (
        ready_grown old (record old { types = c.type_labels.new.types }) g refl refl c.requires.ready,
        inside_more (length old.types) (length c.type_labels.new.types) c.args.around.inside g.length c.requires.around,
      ),
    )

pub cases::arm_with-returns-in-Ok : goal.cases::arm_with-returns-in-Ok
cases::arm_with-returns-in-Ok t c = record {
  arm =
      stated_goes (λ ts b (z : Blocked). Ok (record { own = map label_of c.args.tests.own; block = z.stmts; state = z.state })) c.in-Ok.ensures
      (stated_here c.block.new.state (λ ts b (arm : Arm). arm_as ts b c.block.new.state arm) _ c.in-Ok.ensures.stands.ready);
  labels = refl;
  own = refl;
}

pub cases::arm_with-returns-in-Err : goal.cases::arm_with-returns-in-Err
cases::arm_with-returns-in-Err t c = record {
  arm =
      stated_stops (λ ts b (arm : Arm). arm_as ts b c.block.new.state arm)
      (λ ts b (z : Blocked). Ok (record { own = map label_of c.args.tests.own; block = z.stmts; state = z.state })) c.in-Err.ensures;
  labels = tt;
  own = tt;
}

pub cases::arm_with-block-requires : goal.cases::arm_with-block-requires
cases::arm_with-block-requires t c =
    (omega (arith, c.decreases), (c.requires.ready, c.requires.around))

pub cases::selection-returns-in-Ok : goal.cases::selection-returns-in-Ok
cases::selection-returns-in-Ok t c = λ ends.
    let old = c.args.state.now in
    let all = branches_in c.args.branches.now in
    let otherwise = statements_of c.args.otherwise.now in
    stated_so (λ ts b. stated (around_of ts c.args.around) (ends ts) (state_of ts b old) (tree.selects c.args.at (term_of c.args.selector.now) all otherwise))
    (λ ts b u. select_is (around_of ts c.args.around) (ends ts) (state_of ts b old) c.args.at (term_of c.args.selector.now) all otherwise)
    (type_goes (λ ts (st : State) (v : Value). selection_behind (around_of ts c.args.around) st c.args.at all otherwise v) c.requires.ready c.in-Ok.ensures
    c.selection_by.ensures)

pub cases::selection-returns-in-Err : goal.cases::selection-returns-in-Err
cases::selection-returns-in-Err t c = λ ends.
    let old = c.args.state.now in
    let all = branches_in c.args.branches.now in
    let otherwise = statements_of c.args.otherwise.now in
    stated_so (λ ts b. stated (around_of ts c.args.around) (ends ts) (state_of ts b old) (tree.selects c.args.at (term_of c.args.selector.now) all otherwise))
    (λ ts b u. select_is (around_of ts c.args.around) (ends ts) (state_of ts b old) c.args.at (term_of c.args.selector.now) all otherwise)
    (type_stops (λ ts b s. listed_stated ts b c.value_first.new.state s)
    (λ ts b (v : Value). selection_behind (around_of ts c.args.around) (state_of ts b old) c.args.at all otherwise v) c.in-Err.ensures)

pub cases::selection-selection_by-requires : goal.cases::selection-selection_by-requires
cases::selection-selection_by-requires t c = (
  omega (arith, c.decreases),
  (
    ready_typed c.in-Ok.ensures c.requires.ready,
    (
      inside_more (length c.args.state.now.types) (length c.value_first.new.state.types) c.args.around.inside c.in-Ok.ensures.grown.length
          c.requires.around,
      c.in-Ok.ensures.fits,
    ),
  ),
)

pub cases::selection_by-returns-in-Ok : goal.cases::selection_by-returns-in-Ok
cases::selection_by-returns-in-Ok t c =
    let old = c.args.state.now in
    rule_goes valued_of (λ ts (facts : Facts). selector_rule (valued_of ts c.args.given.value))
    (λ ts b (s : Valued). selection_over (around_of ts c.args.around) (state_of ts b old) c.args.at (branches_in c.args.branches.now)
    (statements_of c.args.otherwise.now) s c.args.given.next) c.in-Ok.ensures.answers c.selection_with.ensures

pub cases::selection_by-returns-in-Err : goal.cases::selection_by-returns-in-Err
cases::selection_by-returns-in-Err t c =
    let old = c.args.state.now in
    rule_stops (λ ts b s. listed_stated ts b old s) valued_of (λ ts (facts : Facts). selector_rule (valued_of ts c.args.given.value))
    (λ ts b (s : Valued). selection_over (around_of ts c.args.around) (state_of ts b old) c.args.at (branches_in c.args.branches.now)
    (statements_of c.args.otherwise.now) s c.args.given.next) c.in-Err.ensures.answers

pub cases::selection_by-selection_with-requires : goal.cases::selection_by-selection_with-requires
cases::selection_by-selection_with-requires t c = (
  omega (arith, c.decreases),
  (
    c.requires.ready,
    (c.requires.around, subst (λ v. v.ty < length c.args.state.now.types) (sym c.in-Ok.ensures.same) c.requires.given),
  ),
)

pub cases::selection_with-returns-in-Ok : goal.cases::selection_with-returns-in-Ok
cases::selection_with-returns-in-Ok t c =
    let old = c.args.state.now in
    let start = record old { node = c.args.next } in
    let v = c.args.value in
    stated_from refl refl refl
    (stated_goes (λ ts b (x : Armed). selection_else (around_of ts c.args.around) (facts_in old.types) (node old.node c.args.at)
    (statements_of c.args.otherwise.now) (valued_of ts v) x) c.in-Ok.ensures (c.selection_else.ensures start c.in-Ok.ensures.further c.requires.value))

pub cases::selection_with-returns-in-Err : goal.cases::selection_with-returns-in-Err
cases::selection_with-returns-in-Err t c =
    let old = c.args.state.now in
    stated_from refl refl refl
    (stated_stops (λ ts b s. listed_stated ts b c.all_arms.new.state s)
    (λ ts b (x : Armed). selection_else (around_of ts c.args.around) (facts_in old.types) (node old.node c.args.at) (statements_of c.args.otherwise.now)
    (valued_of ts c.args.value) x) c.in-Err.ensures)

pub cases::selection_with-all_arms-requires : goal.cases::selection_with-all_arms-requires
cases::selection_with-all_arms-requires t c =
    (omega (arith, c.decreases), (ready_at c.args.state.now c.args.next c.requires.ready, (c.requires.around, c.requires.value)))

pub cases::selection_with-selection_else-requires : goal.cases::selection_with-selection_else-requires
cases::selection_with-selection_else-requires t c =
    let l = c.in-Ok.ensures.further.length in (
      omega (arith, c.decreases),
      (
        c.in-Ok.ensures.stands.ready,
        (
          inside_more (length c.args.state.now.types) (length c.all_arms.new.state.types) c.args.around.inside l c.requires.around,
          omega (arith, l, c.requires.value),
        ),
      ),
    )

pub cases::selection_else-returns-in-Ok : goal.cases::selection_else-returns-in-Ok
cases::selection_else-returns-in-Ok t c = λ before f lt.
    let old = c.args.state.now in
    let new = c.block.new.state in
    let v = c.args.value in
    let arms = c.args.arms in
    let made = λ (ts : List Ty) (b : Beside) (o : Blocked). Ok
    (stated_as
    (does (P.Select c.args.node (P.ByLabels (branch_labels arms.all.items)) (selecting (expr_of ts v.expr) P.NoArg)
    (blocks_of (arm_bodies_in ts arms.all.items) o.stmts)) ∷ []) o.state) in
    stated_goes (λ ts b (o : Blocked). and_then
    (covered (facts_in before.types) c.args.node.at (type_at ts v.ty) arms.labels (statements_of c.args.otherwise.now))
    (λ _. made ts b o)) c.in-Ok.ensures
    (same_state new c.in-Ok.ensures.stands.ready
    (λ ts b u.
    let by = λ (x : Answer (Unit {0})). and_then x (λ _. made ts b (blocked_as ts b new c.in-Ok.stmts.items)) in
    answers_as (listed_stated ts b new)
    (by (covered (facts_in before.types) c.args.node.at (type_at ts v.ty) arms.labels (statements_of c.args.otherwise.now)))
    (by (covered_by c.lacks_else.result (facts_in new.types) c.args.node.at (type_at ts v.ty) arms.labels)) c.covered.result
    (ap by (c.lacks_else.ensures (facts_in before.types) c.args.node.at (type_at ts v.ty) arms.labels
    ∙ covered_stays c.lacks_else.result before new ts v.ty c.args.node.at arms.labels (further_on f c.in-Ok.ensures.further) u lt))
    (c.covered.ensures ts b u)))

pub cases::selection_else-returns-in-Err : goal.cases::selection_else-returns-in-Err
cases::selection_else-returns-in-Err t c = λ before f lt.
    let v = c.args.value in
    let arms = c.args.arms in
    stated_stops (λ ts b s. listed_stated ts b c.block.new.state s)
    (λ ts b (o : Blocked). and_then (covered (facts_in before.types) c.args.node.at (type_at ts v.ty) arms.labels (statements_of c.args.otherwise.now))
    (λ _. Ok (stated_as
    (does (P.Select c.args.node (P.ByLabels (branch_labels arms.all.items)) (selecting (expr_of ts v.expr) P.NoArg)
    (blocks_of (arm_bodies_in ts arms.all.items) o.stmts)) ∷ []) o.state))) c.in-Err.ensures

pub cases::selection_else-covered-requires : goal.cases::selection_else-covered-requires
cases::selection_else-covered-requires t c = let l = c.in-Ok.ensures.further.length in omega (arith, l, c.requires.value)

pub cases::selection_else-block-requires : goal.cases::selection_else-block-requires
cases::selection_else-block-requires t c =
    (omega (arith, c.decreases), (c.requires.ready, c.requires.around))
