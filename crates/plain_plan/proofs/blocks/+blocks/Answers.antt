use Rattle.std.proofs.Common.{◌+◌, ◌++◌, List, drop, append_assoc, sym, ap, ◌∙◌}
use Rattle.std.proofs.lemmas.List.{append-nil}
use Rattle.nim_program.specs.declared.operation.Use.TheVariants.{Owned}
use Rattle.nim_program.specs.declared.stmt.Branch.{Branch}
use Rattle.nim_program.specs.declared.stmt.CaseBranch.{CaseBranch}
use Rattle.nim_program.specs.Program.{Empty, NoArg}
use Rattle.nim_program.specs.View.{expr_of, operand_before, operands_of, kind_of, stmts_of, stmt_before, branch_conditions, branch_blocks}
use Rattle.nim_program.specs.View.{branch_labels, case_blocks}
use Rattle.nim_program.proofs.ForCallers.{decided, selected_statement, repeated}
use Rattle.nim_meaning.specs.TreeSites.{value_sites, selector_sites, loop_sites, block_sites, branch_sites, arm_sites}
use Rattle.plain_plan.specs.Views.{types_of, facts_of, modes_of}
use Rattle.plain_plan.proofs.Adding.{adds_two, adds_as, drop_turn, drop_end, turned, ended}
use Rattle.plain_plan.proofs.Tree.{stmt_next, defer_sites, branches_last, arms_last}
use Rattle.plain_plan.proofs.blocks.+blocks.Goals as goal

pub add_block-loop-stmt-preserved : goal.add_block-loop-stmt-preserved
add_block-loop-stmt-preserved t c =
    let a = c.args.around.now in
    let ts = types_of a in
    let loop = c.loop-stmt in
    let x = c.stmt-item.result in
    let left = stmts_of ts (drop (loop.stmt-index + 1) c.args.block.now.items) in
    let next = drop_turn c.args.block.now.items c.deref-stmt-items.result.now loop.stmt-index x c.deref-stmt-items.ensures.value c.loop-stmt-test.true
    c.stmt-item.is in
    turned loop.invariant c.add_stmt.ensures
    (stmt_next (facts_of a) (modes_of a) ts x left (sym c.is_defer.ensures ∙ c.if-is_defer.false)
    ∙ ap (λ ys. block_sites (facts_of a) (modes_of a) (stmts_of ts ys)) (sym next))

pub add_block-returns-then-is_defer : goal.add_block-returns-then-is_defer
add_block-returns-then-is_defer t c =
    let a = c.args.around.now in
    let ts = types_of a in
    let loop = c.loop-stmt in
    let x = c.stmt-item.result in
    let left = stmts_of ts (drop (loop.stmt-index + 1) c.args.block.now.items) in
    let next = drop_turn c.args.block.now.items c.deref-stmt-items.result.now loop.stmt-index x c.deref-stmt-items.ensures.value c.loop-stmt-test.true
    c.stmt-item.is in
    ended loop.invariant
    (ap (λ ys. block_sites (facts_of a) (modes_of a) (stmts_of ts ys)) next
    ∙ defer_sites (facts_of a) (modes_of a) ts x left (sym c.is_defer.ensures ∙ c.if-is_defer.true))

pub add_block-returns : goal.add_block-returns
add_block-returns t c =
    let a = c.args.around.now in
    let loop = c.loop-stmt in
    let none = drop_end c.args.block.now.items c.deref-stmt-items.result.now loop.stmt-index c.deref-stmt-items.ensures.value c.loop-stmt-test.false in
    ended loop.invariant (ap (λ ys. block_sites (facts_of a) (modes_of a) (stmts_of (types_of a) ys)) none)

pub add_stmt-returns-in-If : goal.add_stmt-returns-in-If
add_stmt-returns-in-If t c =
    let a = c.args.around.now in
    let ts = types_of a in
    let given = c.in-If in
    let whole = ap (λ s. stmt_before ts s Empty) given.is ∙ decided ts given.node Empty given.branches given.otherwise in
    adds_as (adds_two c.add_branches.ensures c.add_block.ensures)
    (branches_last (facts_of a) (modes_of a) ts given.branches.items (stmts_of ts given.otherwise.items)
    ∙ sym (append-nil (branch_sites (facts_of a) (modes_of a) (branch_conditions ts given.branches.items)
    (branch_blocks ts given.branches.items (stmts_of ts given.otherwise.items))))
    ∙ ap (block_sites (facts_of a) (modes_of a)) (sym whole))

pub add_stmt-returns-in-Case : goal.add_stmt-returns-in-Case
add_stmt-returns-in-Case t c =
    let a = c.args.around.now in
    let ts = types_of a in
    let given = c.in-Case in
    let whole = ap (λ s. stmt_before ts s Empty) given.is ∙ selected_statement ts given.node Empty given.selector given.branches given.otherwise in
    let selector = selector_sites (facts_of a) (modes_of a) (operand_before ts given.selector NoArg) in
    adds_as (adds_two c.add_selector.ensures (adds_two c.add_arms.ensures c.add_block-in-Case.ensures))
    (ap (λ ns. selector ++ ns) (arms_last (facts_of a) (modes_of a) ts given.branches.items (stmts_of ts given.otherwise.items))
    ∙ sym (append-nil (selector ++ arm_sites (facts_of a) (modes_of a) (branch_labels given.branches.items)
    (case_blocks ts given.branches.items (stmts_of ts given.otherwise.items))))
    ∙ ap (block_sites (facts_of a) (modes_of a)) (sym whole))

pub add_stmt-returns-in-Loop : goal.add_stmt-returns-in-Loop
add_stmt-returns-in-Loop t c =
    let a = c.args.around.now in
    let ts = types_of a in
    let given = c.in-Loop in
    let whole = ap (λ s. stmt_before ts s Empty) given.is ∙ repeated ts given.node Empty given.kind given.head given.body in
    adds_as (adds_two c.add_loop.ensures c.add_block-in-Loop.ensures)
    (sym (append-nil (loop_sites (facts_of a) (modes_of a) (kind_of ts given.kind) (operands_of ts given.head.items)
    ++ block_sites (facts_of a) (modes_of a) (stmts_of ts given.body.items)))
    ∙ ap (block_sites (facts_of a) (modes_of a)) (sym whole))

pub add_branches-loop-branch-preserved : goal.add_branches-loop-branch-preserved
add_branches-loop-branch-preserved t c =
    let a = c.args.around.now in
    let ts = types_of a in
    let loop = c.loop-branch in
    let x = c.branch-item.result in
    let rest = drop (loop.branch-index + 1) c.args.branches.now.items in
    let next = drop_turn c.args.branches.now.items c.deref-branch-items.result.now loop.branch-index x c.deref-branch-items.ensures.value
    c.loop-branch-test.true
    c.branch-item.is in
    turned loop.invariant (adds_two c.add_value.ensures c.add_block.ensures)
    (append_assoc (value_sites (facts_of a) (modes_of a) (expr_of ts x.condition) Owned) (block_sites (facts_of a) (modes_of a) (stmts_of ts x.body.items))
    (branch_sites (facts_of a) (modes_of a) (branch_conditions ts rest) (branch_blocks ts rest Empty))
    ∙ ap (λ (ys : List Branch). branch_sites (facts_of a) (modes_of a) (branch_conditions ts ys) (branch_blocks ts ys Empty)) (sym next))

pub add_branches-returns : goal.add_branches-returns
add_branches-returns t c =
    let a = c.args.around.now in
    let ts = types_of a in
    let loop = c.loop-branch in
    let none = drop_end c.args.branches.now.items c.deref-branch-items.result.now loop.branch-index c.deref-branch-items.ensures.value
    c.loop-branch-test.false in
    ended loop.invariant (ap (λ (ys : List Branch). branch_sites (facts_of a) (modes_of a) (branch_conditions ts ys) (branch_blocks ts ys Empty)) none)

pub add_arms-loop-branch-preserved : goal.add_arms-loop-branch-preserved
add_arms-loop-branch-preserved t c =
    let a = c.args.around.now in
    let ts = types_of a in
    let loop = c.loop-branch in
    let x = c.branch-item.result in
    let next = drop_turn c.args.branches.now.items c.deref-branch-items.result.now loop.branch-index x c.deref-branch-items.ensures.value
    c.loop-branch-test.true
    c.branch-item.is in
    turned loop.invariant c.add_block.ensures
    (ap (λ (ys : List CaseBranch). arm_sites (facts_of a) (modes_of a) (branch_labels ys) (case_blocks ts ys Empty)) (sym next))

pub add_arms-returns : goal.add_arms-returns
add_arms-returns t c =
    let a = c.args.around.now in
    let ts = types_of a in
    let loop = c.loop-branch in
    let none = drop_end c.args.branches.now.items c.deref-branch-items.result.now loop.branch-index c.deref-branch-items.ensures.value
    c.loop-branch-test.false in
    ended loop.invariant (ap (λ (ys : List CaseBranch). arm_sites (facts_of a) (modes_of a) (branch_labels ys) (case_blocks ts ys Empty)) none)
