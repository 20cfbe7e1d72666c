use Rattle.std.specs.Prelude.{◌&&◌, map}
use Rattle.std.proofs.Common.{◌≡◌, ◌+◌, Bool, List, ◌∷◌, drop, refl, sym, ap, ◌∙◌, arith}
use Rattle.nim_program.specs.Program.{NoArg, Empty}
use Rattle.nim_program.specs.View.{expr_of, label_of, declared_of, operand_before, operands_of, stmt_before, stmts_of}
use Rattle.nim_program.specs.View.{branch_conditions, branch_blocks, branch_labels, case_blocks}
use Rattle.nim_program.proofs.ForCallers.{decided, selected_statement, repeated}
use Rattle.nim_meaning.specs.Shapes.{is_covered, selector_type, is_last_block}
use Rattle.nim_program.specs.declared.stmt.CaseBranch.{CaseBranch}
use Rattle.flat_code.specs.declared.line.Line.TheVariants as L
use Rattle.flattening.specs.declared.numbers.Purpose.TheVariants.{End, Next, Arm}
use Rattle.flattening.specs.Numbering.{label}
use Rattle.flattening.specs.ExprLines.{arm_label}
use Rattle.flattening.specs.StmtLines.{ending, lines_of, branch_lines, arm_blocks}
use Rattle.flattening.specs.StmtViews.{exits_of, other_blocks, BlocksLast}
use Rattle.flattening.specs.Views.{types_of, facts_of, modes_of, result_of, own_lines}
use Rattle.flattening.proofs.Writing.{puts_two, puts_as}
use Rattle.flattening.proofs.ExprPuts.{drop_next, drop_turn, drop_end, turned, ended}
use Rattle.flattening.proofs.LastOnes.{last_one}
use Rattle.flattening.proofs.BlockPuts.{block, rest_lines, first, block_same, one_more, no_more, branch_next, block_last, block_next, decided_lines}
use Rattle.flattening.proofs.BlockPuts.{give_put, decided_put, selected_put, placed_put, while_put, count_put, each_put}
use Rattle.flattening.proofs.stmt_code.+stmts.Goals as goal

-- ---- blocks

pub add_block-loop-stmt-init : goal.add_block-loop-stmt-init
add_block-loop-stmt-init t c new put =
    let a = c.args.around.now in
    let ts = types_of a in
    let exits = exits_of (result_of a) c.args.ways.now in
    puts_as _ _ put (λ k.
    ap (λ es. rest_lines ts (facts_of a) (modes_of a) (result_of a) es (stmts_of ts c.args.block.now.items) exits c.args.t k) c.new-ends.ensures)

pub add_block-loop-stmt-preserved : goal.add_block-loop-stmt-preserved
add_block-loop-stmt-preserved t c =
    let a = c.args.around.now in
    let ts = types_of a in
    let facts = facts_of a in
    let modes = modes_of a in
    let result = result_of a in
    let exits = exits_of result c.args.ways.now in
    let loop = c.loop-stmt in
    let x = c.stmt-item.result in
    let left = stmts_of ts (drop (loop.stmt-index + 1) c.args.block.now.items) in
    let next = drop_turn c.args.block.now.items c.deref-stmt-items.result.now loop.stmt-index x c.deref-stmt-items.ensures.value c.loop-stmt-test.true
    c.stmt-item.is in
    turned _ loop.code c.add_stmt.new.code _
    (rest_lines ts facts modes result loop.ends (stmts_of ts (drop loop.stmt-index c.args.block.now.items)) exits loop.u)
    (first ts facts modes result (stmt_before ts x Empty) (ending (own_lines c.as_slice.result.now) exits) loop.u)
    (rest_lines ts facts modes result c.push_declared.new.ends left exits c.in-Some.following)
    loop.invariant c.add_stmt.ensures
    (λ k. one_more ts facts modes result exits ts x left loop.u c.in-Some.following loop.ends c.as_slice.result.now c.push_declared.new.ends
    (sym c.is_defer.ensures ∙ c.if-is_defer.false) c.in-Some.ensures c.as_slice.ensures c.in-Ok.ensures k
    ∙ ap (λ ys. rest_lines ts facts modes result loop.ends (stmts_of ts ys) exits loop.u k) (sym next))

pub add_block-returns-then-is_defer : goal.add_block-returns-then-is_defer
add_block-returns-then-is_defer t c =
    let a = c.args.around.now in
    let ts = types_of a in
    let facts = facts_of a in
    let modes = modes_of a in
    let result = result_of a in
    let exits = exits_of result c.args.ways.now in
    let loop = c.loop-stmt in
    let x = c.stmt-item.result in
    let left = stmts_of ts (drop (loop.stmt-index + 1) c.args.block.now.items) in
    let next = drop_turn c.args.block.now.items c.deref-stmt-items.result.now loop.stmt-index x c.deref-stmt-items.ensures.value c.loop-stmt-test.true
    c.stmt-item.is in
    ended _ loop.code c.put_ends.new.code _
    (rest_lines ts facts modes result loop.ends (stmts_of ts (drop loop.stmt-index c.args.block.now.items)) exits loop.u)
    (λ k. first ts facts modes result (stmt_before ts x Empty) (ending (own_lines c.as_slice.result.now) exits) loop.u
    (own_lines c.as_slice-then-is_defer.result.now k)) loop.invariant
    (λ k. no_more ts facts modes result exits ts x left loop.u loop.ends c.as_slice.result.now c.as_slice-then-is_defer.result.now
    (sym c.is_defer.ensures ∙ c.if-is_defer.true) c.as_slice.ensures c.as_slice-then-is_defer.ensures k
    ∙ ap (λ ys. rest_lines ts facts modes result loop.ends (stmts_of ts ys) exits loop.u k) (sym next))
    (puts_two c.add_stmt.ensures c.put_ends.ensures)

pub add_block-returns : goal.add_block-returns
add_block-returns t c =
    let a = c.args.around.now in
    let ts = types_of a in
    let exits = exits_of (result_of a) c.args.ways.now in
    let loop = c.loop-stmt in
    let all = rest_lines ts (facts_of a) (modes_of a) (result_of a) loop.ends in
    let none = drop_end c.args.block.now.items c.deref-stmt-items.result.now loop.stmt-index c.deref-stmt-items.ensures.value c.loop-stmt-test.false in
    ended _ loop.code c.put_ends-2.new.code _ (all (stmts_of ts (drop loop.stmt-index c.args.block.now.items)) exits loop.u)
    (own_lines c.as_slice-2.result.now) loop.invariant
    (λ k. ap (λ es. own_lines es k) c.as_slice-2.ensures ∙ ap (λ ys. all (stmts_of ts ys) exits loop.u k) (sym none)) c.put_ends-2.ensures

-- ---- statements

pub add_stmt-returns-in-Give : goal.add_stmt-returns-in-Give
add_stmt-returns-in-Give t c =
    let a = c.args.around.now in
    let ts = types_of a in
    let given = c.in-Give in
    let exits = exits_of (result_of a) c.args.ways.now in
    block_same ts (facts_of a) (modes_of a) (result_of a) exits _ _ c.args.t (ap (λ s. stmt_before ts s Empty) given.is)
    (give_put ts (facts_of a) (modes_of a) (result_of a) exits given.node given.back (expr_of ts given.value) c.args.t c.in-Some.u c.in-Some.ensures
    (puts_two c.add_given.ensures (puts_two c.put_value_ends-in-Give.ensures c.put_back.ensures)))

pub add_stmt-returns-in-Some-add_branches : goal.add_stmt-returns-in-Some-add_branches
add_stmt-returns-in-Some-add_branches t c =
    let a = c.args.around.now in
    let ts = types_of a in
    let given = c.in-If in
    let exits = exits_of (result_of a) c.args.ways.now in
    let last = stmts_of ts given.otherwise.items in
    let whole = ap (λ s. stmt_before ts s Empty) given.is ∙ decided ts given.node Empty given.branches given.otherwise in
    block_same ts (facts_of a) (modes_of a) (result_of a) exits _ _ c.args.t whole
    (decided_put ts (facts_of a) (modes_of a) (result_of a) exits given.node (branch_conditions ts given.branches.items)
    (branch_blocks ts given.branches.items last)
    c.args.t c.in-Some.u c.in-Some.ensures (puts_two (c.in-Some-add_branches.ensures last _ c.add_block.ensures) c.put_label.ensures))

pub add_stmt-returns-in-Loop : goal.add_stmt-returns-in-Loop
add_stmt-returns-in-Loop t c =
    let a = c.args.around.now in
    let ts = types_of a in
    let given = c.in-Loop in
    let exits = exits_of (result_of a) c.args.ways.now in
    let whole = ap (λ s. stmt_before ts s Empty) given.is ∙ repeated ts given.node Empty given.kind given.head given.body in
    block_same ts (facts_of a) (modes_of a) (result_of a) exits _ _ c.args.t whole (c.add_loop.ensures c.in-Some.ensures)

-- ---- a `case`

pub add_select-returns-in-Closed : goal.add_select-returns-in-Closed
add_select-returns-in-Closed t c begins =
    let a = c.args.around.now in
    let ts = types_of a in
    let given = c.in-Case in
    let exits = exits_of (result_of a) c.args.ways.now in
    let last = stmts_of ts given.otherwise.items in
    let covered = is_covered (selector_type (operand_before ts given.selector NoArg)) in
    let whole = ap (λ s. stmt_before ts s Empty) given.is ∙ selected_statement ts given.node Empty given.selector given.branches given.otherwise in
    block_same ts (facts_of a) (modes_of a) (result_of a) exits _ _ c.args.t whole
    (selected_put ts (facts_of a) (modes_of a) (result_of a) exits ts given.node given.branches.items given.selector
    (case_blocks ts given.branches.items last) c.args.t c.args.u c.in-Some.s c.in-Some-behind_selector.v covered c.as_slice.result.now
    c.as_slice-in-Closed.result.now begins c.in-Some.ensures c.in-Some-behind_selector.ensures refl
    (c.as_slice.ensures ∙ c.in-Ok.ensures) (c.as_slice-in-Closed.ensures ∙ c.in-Ok.ensures)
    (puts_two c.add_selector.ensures
    (puts_two (c.put_block_tests.ensures ts last)
    (puts_two c.put_jump.ensures
    (puts_two (c.in-Closed.ensures covered (last, c.may_close-closes.ensures)) c.put_case_end.ensures)))))

pub add_select-returns-in-Case : goal.add_select-returns-in-Case
add_select-returns-in-Case t c begins =
    let a = c.args.around.now in
    let ts = types_of a in
    let given = c.in-Case in
    let exits = exits_of (result_of a) c.args.ways.now in
    let last = stmts_of ts given.otherwise.items in
    let covered = is_covered (selector_type (operand_before ts given.selector NoArg)) in
    let whole = ap (λ s. stmt_before ts s Empty) given.is ∙ selected_statement ts given.node Empty given.selector given.branches given.otherwise in
    block_same ts (facts_of a) (modes_of a) (result_of a) exits _ _ c.args.t whole
    (selected_put ts (facts_of a) (modes_of a) (result_of a) exits ts given.node given.branches.items given.selector
    (case_blocks ts given.branches.items last) c.args.t c.args.u c.in-Some.s c.in-Some-behind_selector.v covered c.as_slice.result.now
    c.as_slice-in-Open.result.now begins c.in-Some.ensures c.in-Some-behind_selector.ensures refl
    (c.as_slice.ensures ∙ c.in-Ok.ensures) (c.as_slice-in-Open.ensures ∙ c.in-Ok.ensures)
    (puts_two c.add_selector.ensures
    (puts_two (c.put_block_tests.ensures ts last)
    (puts_two c.put_jump.ensures
    (puts_two (c.in-Open.ensures covered (last, c.may_close-closes.ensures) _ c.add_others.ensures) c.put_case_end-in-Open.ensures)))))

-- ---- branches

pub add_branches-loop-branch-preserved : goal.add_branches-loop-branch-preserved
add_branches-loop-branch-preserved t c last =
    let a = c.args.around.now in
    let ts = types_of a in
    let facts = facts_of a in
    let modes = modes_of a in
    let result = result_of a in
    let exits = exits_of result c.args.ways.now in
    let loop = c.loop-branch in
    let x = c.branch-item.result in
    let rest = drop (loop.branch-index + 1) c.args.branches.now.items in
    let next = drop_turn c.args.branches.now.items c.deref-branch-items.result.now loop.branch-index x c.deref-branch-items.ensures.value
    c.loop-branch-test.true
    c.branch-item.is in
    turned _ loop.code c.put_label.new.code _
    (branch_lines ts facts modes result (branch_conditions ts (drop loop.branch-index c.args.branches.now.items))
    (branch_blocks ts (drop loop.branch-index c.args.branches.now.items) last) exits c.args.t loop.u)
    (decided_lines ts facts modes result exits (expr_of ts x.condition) (stmts_of ts x.body.items) c.args.t loop.u c.in-Some.v)
    (branch_lines ts facts modes result (branch_conditions ts rest) (branch_blocks ts rest last) exits c.args.t c.in-Some-behind_block.following)
    (loop.invariant last)
    (puts_two c.add_expr.ensures
    (puts_two c.put_value_ends.ensures
    (puts_two c.put_unless.ensures (puts_two c.add_block.ensures (puts_two c.put_jump.ensures c.put_label.ensures)))))
    (λ k. branch_next ts facts modes result exits (expr_of ts x.condition) (stmts_of ts x.body.items) (branch_conditions ts rest)
    (branch_blocks ts rest last) c.args.t loop.u c.in-Some.v c.in-Some-behind_block.following c.in-Some.ensures c.in-Some-behind_block.ensures k
    ∙ ap (λ ys. branch_lines ts facts modes result (branch_conditions ts ys) (branch_blocks ts ys last) exits c.args.t loop.u k) (sym next))

pub add_branches-returns : goal.add_branches-returns
add_branches-returns t c last end put =
    let a = c.args.around.now in
    let ts = types_of a in
    let facts = facts_of a in
    let modes = modes_of a in
    let result = result_of a in
    let exits = exits_of result c.args.ways.now in
    let loop = c.loop-branch in
    let none = drop_end c.args.branches.now.items c.deref-branch-items.result.now loop.branch-index c.deref-branch-items.ensures.value
    c.loop-branch-test.false in
    ended _ loop.code end _
    (branch_lines ts facts modes result (branch_conditions ts (drop loop.branch-index c.args.branches.now.items))
    (branch_blocks ts (drop loop.branch-index c.args.branches.now.items) last) exits c.args.t loop.u)
    (lines_of ts facts modes result last exits loop.u) (loop.invariant last)
    (λ k. ap (λ ys. branch_lines ts facts modes result (branch_conditions ts ys) (branch_blocks ts ys last) exits c.args.t loop.u k) (sym none)) put

pub add_cases-returns-then-for_others : goal.add_cases-returns-then-for_others
add_cases-returns-then-for_others t c covered last =
    let a = c.args.around.now in
    let ts = types_of a in
    let facts = facts_of a in
    let modes = modes_of a in
    let result = result_of a in
    let exits = exits_of result c.args.ways.now in
    let loop = c.loop-i in
    let xs = c.args.branches.now.items in
    let x = c.index.result.now in
    let rest = drop (loop.i + 1) xs in
    let first = stmts_of ts x.body.items in
    let next = drop_next xs loop.i x (omega arith) c.index.ensures in
    let is_end : c.is_last-for_others.result ≡ (covered && is_last_block (case_blocks ts rest last.0)) =
    last_one (λ (ys : List CaseBranch). is_last_block (case_blocks ts ys last.0)) (λ y ys. refl) covered c.args.closes c.is_last-for_others.result xs
    (loop.i + 1) last.1 c.is_last-for_others.ensures.closes (λ e. omega (arith, c.is_last-for_others.ensures.last e))
    (λ e f. omega (arith, c.is_last-for_others.ensures.more e f)) in
    ended _ loop.code c.add_block.new.code _
    (arm_blocks ts facts modes result covered (branch_labels (drop loop.i xs)) (case_blocks ts (drop loop.i xs) last.0) exits c.args.t loop.arm loop.u)
    (λ k. arm_label c.is_last-for_others.result (label Next c.args.t) (label Arm loop.arm) (lines_of ts facts modes result first exits loop.u k))
    (loop.invariant.1 covered last)
    (λ k. block_last ts facts modes result exits covered c.is_last-for_others.result (map label_of x.labels) (branch_labels rest) first
    (case_blocks ts rest last.0) c.args.t loop.arm loop.u is_end c.if-for_others.true k
    ∙ ap (λ ys. arm_blocks ts facts modes result covered (branch_labels ys) (case_blocks ts ys last.0) exits c.args.t loop.arm loop.u k) (sym next))
    (puts_two c.put_arm_label.ensures c.add_block.ensures)

pub add_cases-loop-i-preserved : goal.add_cases-loop-i-preserved
add_cases-loop-i-preserved t c = (
  omega arith,
  λ (covered : Bool) (last : BlocksLast covered c.args.closes).
      let a = c.args.around.now in
      let ts = types_of a in
      let facts = facts_of a in
      let modes = modes_of a in
      let result = result_of a in
      let exits = exits_of result c.args.ways.now in
      let loop = c.loop-i in
      let xs = c.args.branches.now.items in
      let x = c.index.result.now in
      let rest = drop (loop.i + 1) xs in
      let first = stmts_of ts x.body.items in
      let next = drop_next xs loop.i x (omega arith) c.index.ensures in
      let is_end : c.is_last-for_others.result ≡ (covered && is_last_block (case_blocks ts rest last.0)) =
      last_one (λ (ys : List CaseBranch). is_last_block (case_blocks ts ys last.0)) (λ y ys. refl) covered c.args.closes c.is_last-for_others.result xs
      (loop.i + 1) last.1 c.is_last-for_others.ensures.closes (λ e. omega (arith, c.is_last-for_others.ensures.last e))
      (λ e f. omega (arith, c.is_last-for_others.ensures.more e f)) in
      turned _ loop.code c.put_jump.new.code _
      (arm_blocks ts facts modes result covered (branch_labels (drop loop.i xs)) (case_blocks ts (drop loop.i xs) last.0) exits c.args.t loop.arm loop.u)
      (λ k. arm_label c.is_last-for_others.result (label Next c.args.t) (label Arm loop.arm)
      (lines_of ts facts modes result first exits loop.u (L.Jump (label End c.args.t) ∷ k)))
      (arm_blocks ts facts modes result covered (branch_labels rest) (case_blocks ts rest last.0) exits c.args.t c.in-Some.next_arm
      c.in-Some-behind_block.following) (loop.invariant.1 covered last)
      (puts_two c.put_arm_label.ensures (puts_two c.add_block.ensures c.put_jump.ensures))
      (λ k. block_next ts facts modes result exits covered c.is_last-for_others.result (map label_of x.labels) (branch_labels rest) first
      (case_blocks ts rest last.0) c.args.t loop.arm c.in-Some.next_arm loop.u c.in-Some-behind_block.following is_end c.if-for_others.false
      c.in-Some.ensures c.in-Some-behind_block.ensures k
      ∙ ap (λ ys. arm_blocks ts facts modes result covered (branch_labels ys) (case_blocks ts ys last.0) exits c.args.t loop.arm loop.u k) (sym next)),
)

pub add_cases-returns : goal.add_cases-returns
add_cases-returns t c covered last end put =
    let a = c.args.around.now in
    let ts = types_of a in
    let facts = facts_of a in
    let modes = modes_of a in
    let result = result_of a in
    let exits = exits_of result c.args.ways.now in
    let loop = c.loop-i in
    let none = drop_end c.args.branches.now.items c.args.branches.now.items loop.i refl (omega arith) in
    ended _ loop.code end _
    (arm_blocks ts facts modes result covered (branch_labels (drop loop.i c.args.branches.now.items))
    (case_blocks ts (drop loop.i c.args.branches.now.items) last.0) exits c.args.t loop.arm loop.u)
    (other_blocks ts facts modes result last.0 exits c.args.t loop.u) (loop.invariant.1 covered last)
    (λ k. ap (λ ys. arm_blocks ts facts modes result covered (branch_labels ys) (case_blocks ts ys last.0) exits c.args.t loop.arm loop.u k) (sym none)) put

-- ---- loops

pub add_placed_turn-returns : goal.add_placed_turn-returns
add_placed_turn-returns t c =
    let a = c.args.around.now in
    let ts = types_of a in
    placed_put ts (facts_of a) (modes_of a) (result_of a) (exits_of (result_of a) c.args.ways.now) (declared_of ts c.args.place.now)
    (stmts_of ts c.args.body.now.items) c.args.t c.args.first c.as_slice.result.now c.as_slice-2.result.now
    (c.as_slice.ensures ∙ c.in-Ok.ensures) (c.as_slice-2.ensures ∙ c.in-Ok.ensures)
    (puts_two c.add_block.ensures (puts_two c.put_ends.ensures c.put_label.ensures))

pub add_while-returns : goal.add_while-returns
add_while-returns t c e =
    let a = c.args.around.now in
    let ts = types_of a in
    while_put ts (facts_of a) (modes_of a) (result_of a) (exits_of (result_of a) c.args.ways.now) (operands_of ts c.args.head.now.items)
    (stmts_of ts c.args.body.now.items) c.args.t c.args.u c.in-Some.first e c.in-Some.ensures
    (puts_two c.put_jump.ensures
    (puts_two c.put_label.ensures
    (puts_two c.add_block.ensures
    (puts_two c.put_label-2.ensures (puts_two c.add_test.ensures (puts_two c.put_turn_if.ensures c.put_label-3.ensures))))))

pub add_count-returns : goal.add_count-returns
add_count-returns t c e =
    let a = c.args.around.now in
    let ts = types_of a in
    count_put ts (facts_of a) (modes_of a) (result_of a) (exits_of (result_of a) c.args.ways.now) (declared_of ts c.args.variable.now)
    c.args.inclusive (operands_of ts c.args.head.now.items) (stmts_of ts c.args.body.now.items) c.args.t c.args.u c.in-Some.last
    c.in-Some-behind_operands.first c.as_slice.result.now c.as_slice-2.result.now e c.in-Some.ensures c.in-Some-behind_operands.ensures
    (c.as_slice.ensures ∙ c.in-Ok.ensures) (c.as_slice-2.ensures ∙ c.in-Ok.ensures)
    (puts_two c.add_ready.ensures
    (puts_two c.put_beyond.ensures
    (puts_two c.put.ensures
    (puts_two c.put_label.ensures
    (puts_two c.put-2.ensures
    (puts_two c.add_placed_turn.ensures (puts_two c.put_count_turn.ensures (puts_two c.put_label-2.ensures c.put_ends.ensures))))))))

pub add_each-returns : goal.add_each-returns
add_each-returns t c e =
    let a = c.args.around.now in
    let ts = types_of a in
    each_put ts (facts_of a) (modes_of a) (result_of a) (exits_of (result_of a) c.args.ways.now) (declared_of ts c.args.variable.now)
    (operands_of ts c.args.head.now.items) (stmts_of ts c.args.body.now.items) c.args.t c.args.u c.in-Some.length c.in-Some-behind.place
    c.in-Some-behind_operands.first c.as_slice.result.now c.as_slice-2.result.now e c.in-Some.ensures c.in-Some-behind.ensures.number
    c.in-Some-behind_operands.ensures (c.as_slice.ensures ∙ c.in-Ok.ensures) (c.as_slice-2.ensures ∙ c.in-Ok.ensures)
    (puts_two c.add_ready.ensures
    (puts_two c.put_before_turns.ensures (puts_two c.add_placed_turn.ensures (puts_two c.put_element.ensures c.put_ends.ensures))))
