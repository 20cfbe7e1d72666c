use Rattle.std.proofs.Common.{◌+◌, [], ◌++◌, length, drop, sym, ap, ◌∙◌}
use Rattle.nim_program.specs.Program.{Empty}
use Rattle.nim_program.specs.View.{expr_of, kind_of, operands_of, stmt_before, stmts_of}
use Rattle.nim_program.specs.View.{branch_conditions, branch_blocks, branch_labels, case_blocks}
use Rattle.nim_program.proofs.ForCallers.{decided, selected_statement, repeated}
use Rattle.flattening.specs.Places.{expr_places, block_places, branch_places, arm_places}
use Rattle.flattening.specs.Views.{types_of, facts_of, modes_of}
use Rattle.flattening.specs.PlaceViews.{places_of_first}
use Rattle.flattening.proofs.StmtPuts.{label_count}
use Rattle.flattening.proofs.ExprPuts.{drop_turn, drop_end}
use Rattle.flattening.proofs.Writing.{puts_none}
use Rattle.flattening.proofs.PlacePuts.{joined, three, listed_as, listed_more, listed_end, block_as, stmts_list, stmts_end, decided_list, cases_list}
use Rattle.flattening.proofs.PlacePuts.{branches_list, arms_list, loop_list}
use Rattle.flattening.proofs.stmt_places.+block_places.Goals as goal

pub list_stmt-returns-in-Loop : goal.list_stmt-returns-in-Loop
list_stmt-returns-in-Loop t c =
    let ts = types_of c.args.around.now in
    let facts = facts_of c.args.around.now in
    let modes = modes_of c.args.around.now in
    let given = c.in-Loop in
    let whole = ap (λ s. stmt_before ts s Empty) given.is ∙ repeated ts given.node Empty given.kind given.head given.body in
    block_as ts facts modes _ _ c.args.t whole (joined _ _ c.put_counters.ensures c.list_loop.ensures)

pub list_stmt-returns-in-Some-list_branches : goal.list_stmt-returns-in-Some-list_branches
list_stmt-returns-in-Some-list_branches t c =
    let ts = types_of c.args.around.now in
    let facts = facts_of c.args.around.now in
    let modes = modes_of c.args.around.now in
    let given = c.in-If in
    let last = stmts_of ts given.otherwise.items in
    let whole = ap (λ s. stmt_before ts s Empty) given.is ∙ decided ts given.node Empty given.branches given.otherwise in
    block_as ts facts modes _ _ c.args.t whole
    (listed_as _ _ (decided_list ts facts modes given.node (branch_conditions ts given.branches.items) (branch_blocks ts given.branches.items last) c.args.t
    c.in-Some.u
    c.in-Some.ensures) (c.in-Some-list_branches.ensures last _ c.list_block.ensures))

pub list_stmt-returns-in-Some-list_arms : goal.list_stmt-returns-in-Some-list_arms
list_stmt-returns-in-Some-list_arms t c =
    let ts = types_of c.args.around.now in
    let facts = facts_of c.args.around.now in
    let modes = modes_of c.args.around.now in
    let given = c.in-Case in
    let last = stmts_of ts given.otherwise.items in
    let whole = ap (λ s. stmt_before ts s Empty) given.is ∙ selected_statement ts given.node Empty given.selector given.branches given.otherwise in
    block_as ts facts modes _ _ c.args.t whole
    (listed_as _ _ (cases_list ts facts modes ts given.node (branch_labels given.branches.items) given.selector (case_blocks ts given.branches.items last)
    (length given.branches.items) c.args.t c.in-Some.u c.in-Some-behind_cases.s c.in-Some-selector_from.from c.in-Some-behind_selector.v c.in-Some.ensures
    c.in-Some-behind_cases.ensures (sym (label_count given.branches.items)) (c.in-Some-selector_from.ensures ts) c.in-Some-behind_selector.ensures)
    (three _ _ _ c.put_selector.ensures c.list_operand.ensures (c.in-Some-list_arms.ensures last _ c.list_block-in-Case.ensures)))

pub list_block-loop-stmt-preserved : goal.list_block-loop-stmt-preserved
list_block-loop-stmt-preserved t c =
    let ts = types_of c.args.around.now in
    let facts = facts_of c.args.around.now in
    let modes = modes_of c.args.around.now in
    let loop = c.loop-stmt in
    let x = c.stmt-item.result in
    let left = stmts_of ts (drop (loop.stmt-index + 1) c.args.block.now.items) in
    let next = drop_turn c.args.block.now.items c.deref-stmt-items.result.now loop.stmt-index x c.deref-stmt-items.ensures.value c.loop-stmt-test.true
    c.stmt-item.is in
    listed_more _ loop.places _ _ (block_places ts facts modes (stmts_of ts (drop loop.stmt-index c.args.block.now.items)) loop.u)
    (places_of_first ts facts modes (stmt_before ts x Empty) loop.u) (block_places ts facts modes left c.in-Some.following) loop.invariant c.list_stmt.ensures
    (ap (λ ys. block_places ts facts modes (stmts_of ts ys) loop.u) next
    ∙ stmts_list ts facts modes ts x left loop.u c.in-Some.following (sym c.is_defer.ensures ∙ c.if-is_defer.false) c.in-Some.ensures)

pub list_block-returns-then-is_defer : goal.list_block-returns-then-is_defer
list_block-returns-then-is_defer t c =
    let ts = types_of c.args.around.now in
    let facts = facts_of c.args.around.now in
    let modes = modes_of c.args.around.now in
    let loop = c.loop-stmt in
    let x = c.stmt-item.result in
    let left = stmts_of ts (drop (loop.stmt-index + 1) c.args.block.now.items) in
    let next = drop_turn c.args.block.now.items c.deref-stmt-items.result.now loop.stmt-index x c.deref-stmt-items.ensures.value c.loop-stmt-test.true
    c.stmt-item.is in
    listed_end _ loop.places _ _ (block_places ts facts modes (stmts_of ts (drop loop.stmt-index c.args.block.now.items)) loop.u)
    (places_of_first ts facts modes (stmt_before ts x Empty) loop.u) loop.invariant
    (ap (λ ys. block_places ts facts modes (stmts_of ts ys) loop.u) next
    ∙ stmts_end ts facts modes ts x left loop.u (sym c.is_defer.ensures ∙ c.if-is_defer.true))
    c.list_stmt.ensures

pub list_branches-loop-branch-preserved : goal.list_branches-loop-branch-preserved
list_branches-loop-branch-preserved t c last =
    let ts = types_of c.args.around.now in
    let facts = facts_of c.args.around.now in
    let modes = modes_of c.args.around.now in
    let loop = c.loop-branch in
    let x = c.branch-item.result in
    let rest = drop (loop.branch-index + 1) c.args.branches.now.items in
    let next = drop_turn c.args.branches.now.items c.deref-branch-items.result.now loop.branch-index x c.deref-branch-items.ensures.value
    c.loop-branch-test.true
    c.branch-item.is in
    listed_more _ loop.places _ _
    (branch_places ts facts modes (branch_conditions ts (drop loop.branch-index c.args.branches.now.items))
    (branch_blocks ts (drop loop.branch-index c.args.branches.now.items) last) loop.u)
    (expr_places ts facts modes (expr_of ts x.condition) loop.u ++ block_places ts facts modes (stmts_of ts x.body.items) c.in-Some.v)
    (branch_places ts facts modes (branch_conditions ts rest) (branch_blocks ts rest last) c.in-Some-behind_block.following) (loop.invariant last)
    (joined _ _ c.list_expr.ensures c.list_block.ensures)
    (ap (λ ys. branch_places ts facts modes (branch_conditions ts ys) (branch_blocks ts ys last) loop.u) next
    ∙ branches_list ts facts modes (expr_of ts x.condition) (stmts_of ts x.body.items) (branch_conditions ts rest) (branch_blocks ts rest last) loop.u
    c.in-Some.v
    c.in-Some-behind_block.following c.in-Some.ensures c.in-Some-behind_block.ensures)

pub list_block-returns : goal.list_block-returns
list_block-returns t c =
    let ts = types_of c.args.around.now in
    let facts = facts_of c.args.around.now in
    let modes = modes_of c.args.around.now in
    let loop = c.loop-stmt in
    let none = drop_end c.args.block.now.items c.deref-stmt-items.result.now loop.stmt-index c.deref-stmt-items.ensures.value c.loop-stmt-test.false in
    listed_end _ loop.places loop.places _ (block_places ts facts modes (stmts_of ts (drop loop.stmt-index c.args.block.now.items)) loop.u) [] loop.invariant
    (ap (λ ys. block_places ts facts modes (stmts_of ts ys) loop.u) none) (puts_none loop.places)

pub list_branches-returns : goal.list_branches-returns
list_branches-returns t c last end put =
    let ts = types_of c.args.around.now in
    let facts = facts_of c.args.around.now in
    let modes = modes_of c.args.around.now in
    let loop = c.loop-branch in
    let none = drop_end c.args.branches.now.items c.deref-branch-items.result.now loop.branch-index c.deref-branch-items.ensures.value
    c.loop-branch-test.false in
    listed_end _ loop.places end _
    (branch_places ts facts modes (branch_conditions ts (drop loop.branch-index c.args.branches.now.items))
    (branch_blocks ts (drop loop.branch-index c.args.branches.now.items) last) loop.u) (block_places ts facts modes last loop.u) (loop.invariant last)
    (ap (λ ys. branch_places ts facts modes (branch_conditions ts ys) (branch_blocks ts ys last) loop.u) none) put

pub list_arms-returns : goal.list_arms-returns
list_arms-returns t c last end put =
    let ts = types_of c.args.around.now in
    let facts = facts_of c.args.around.now in
    let modes = modes_of c.args.around.now in
    let loop = c.loop-branch in
    let none = drop_end c.args.branches.now.items c.deref-branch-items.result.now loop.branch-index c.deref-branch-items.ensures.value
    c.loop-branch-test.false in
    listed_end _ loop.places end _ (arm_places ts facts modes (case_blocks ts (drop loop.branch-index c.args.branches.now.items) last) loop.u)
    (block_places ts facts modes last loop.u) (loop.invariant last) (ap (λ ys. arm_places ts facts modes (case_blocks ts ys last) loop.u) none) put

pub list_arms-loop-branch-preserved : goal.list_arms-loop-branch-preserved
list_arms-loop-branch-preserved t c last =
    let ts = types_of c.args.around.now in
    let facts = facts_of c.args.around.now in
    let modes = modes_of c.args.around.now in
    let loop = c.loop-branch in
    let x = c.branch-item.result in
    let rest = drop (loop.branch-index + 1) c.args.branches.now.items in
    let next = drop_turn c.args.branches.now.items c.deref-branch-items.result.now loop.branch-index x c.deref-branch-items.ensures.value
    c.loop-branch-test.true
    c.branch-item.is in
    listed_more _ loop.places _ _ (arm_places ts facts modes (case_blocks ts (drop loop.branch-index c.args.branches.now.items) last) loop.u)
    (block_places ts facts modes (stmts_of ts x.body.items) loop.u) (arm_places ts facts modes (case_blocks ts rest last) c.in-Some.following)
    (loop.invariant last)
    c.list_block.ensures
    (ap (λ ys. arm_places ts facts modes (case_blocks ts ys last) loop.u) next
    ∙ arms_list ts facts modes (stmts_of ts x.body.items) (case_blocks ts rest last) loop.u c.in-Some.following c.in-Some.ensures)

pub list_loop-returns : goal.list_loop-returns
list_loop-returns t c =
    let ts = types_of c.args.around.now in
    let facts = facts_of c.args.around.now in
    let modes = modes_of c.args.around.now in
    listed_as _ _ (loop_list ts facts modes (kind_of ts c.args.kind.now) (operands_of ts c.args.head.now.items) (stmts_of ts c.args.body.now.items) c.args.t
    c.in-Some.u c.in-Some-behind_operands.v (c.in-Some.ensures ts) c.in-Some-behind_operands.ensures)
    (joined _ _ c.list_operands.ensures c.list_block.ensures)
