use Rattle.std.proofs.Common.{◌≡◌, ◌∙◌, drop, sym, ap, subst, arith}
use Rattle.nim_program.specs.View.{stmt_before, stmts_of, branch_conditions, branch_blocks, case_blocks}
use Rattle.nim_program.specs.Folds.{in_turn, each, total_of, each_block}
use Rattle.nim_program.proofs.ForCallers.{decided, selected_statement, repeated, tried, deferred}
use Rattle.program_limits.specs.Meeting.{Met, before, own_before}
use Rattle.program_limits.proofs.block_texts.+stmts.Goals as goal

pub of_stmt-returns-in-If : goal.of_stmt-returns-in-If
of_stmt-returns-in-If t c ts rest met h =
    let given = c.in-If in
    let last = stmts_of ts given.otherwise.items in
    let whole = ap (λ s. stmt_before ts s rest) given.is ∙ decided ts given.node rest given.branches given.otherwise in
    let other = c.of_block.ensures ts _ h in
    subst (λ s. Met c.of_branches.new.texts (total_of before own_before s met)) (sym whole) (c.of_branches.ensures ts last _ other)

pub of_stmt-returns-in-Case : goal.of_stmt-returns-in-Case
of_stmt-returns-in-Case t c ts rest met h =
    let given = c.in-Case in
    let last = stmts_of ts given.otherwise.items in
    let whole = ap (λ s. stmt_before ts s rest) given.is ∙ selected_statement ts given.node rest given.selector given.branches given.otherwise in
    let blocks = each_block before own_before (case_blocks ts given.branches.items last) in
    let other = c.of_block-in-Case.ensures ts _ h in
    let inside = c.of_case_branches.ensures ts last _ other in
    let all = c.of_selector.ensures ts blocks _ inside in
    subst (λ s. Met c.of_branch_labels.new.texts (total_of before own_before s met)) (sym whole) (c.of_branch_labels.ensures _ all)

pub of_stmt-returns-in-Loop : goal.of_stmt-returns-in-Loop
of_stmt-returns-in-Loop t c ts rest met h =
    let given = c.in-Loop in
    let whole = ap (λ s. stmt_before ts s rest) given.is ∙ repeated ts given.node rest given.kind given.head given.body in
    let body = c.of_block-in-Loop.ensures ts _ h in
    subst (λ s. Met c.of_operands-in-Loop.new.texts (total_of before own_before s met)) (sym whole) (c.of_operands-in-Loop.ensures ts _ body)

pub of_stmt-returns-in-Try : goal.of_stmt-returns-in-Try
of_stmt-returns-in-Try t c ts rest met h =
    let given = c.in-Try in
    let whole = ap (λ s. stmt_before ts s rest) given.is ∙ tried ts given.node rest given.body given.handlers given.last in
    let last = c.of_block-in-Try.ensures ts _ h in
    let handlers = c.of_handlers.ensures ts _ last in
    subst (λ s. Met c.of_block-in-Try-2.new.texts (total_of before own_before s met)) (sym whole) (c.of_block-in-Try-2.ensures ts _ handlers)

pub of_stmt-returns-in-Defer : goal.of_stmt-returns-in-Defer
of_stmt-returns-in-Defer t c ts rest met h =
    let given = c.in-Defer in
    let whole = ap (λ s. stmt_before ts s rest) given.is ∙ deferred ts given.node rest given.last in
    subst (λ s. Met c.of_block-in-Defer.new.texts (total_of before own_before s met)) (sym whole) (c.of_block-in-Defer.ensures ts _ h)

pub of_branches-returns : goal.of_branches-returns
of_branches-returns t c ts last met h =
    let all = c.args.branches.now.items in
    let zero : c.loop-i.i ≡ 0 = omega (arith, c.loop-i-test.false) in
    subst (λ n. Met c.loop-i.texts (in_turn before (each before own_before (branch_conditions ts (drop n all)))
    (each_block before own_before (branch_blocks ts (drop n all) last)) met)) zero (c.loop-i.invariant.1 ts last met h)
