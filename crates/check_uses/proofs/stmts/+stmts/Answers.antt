use Rattle.std.proofs.Common.{◌++◌, ◌∙◌, [], ap, sym, refl, arith, get_or}
use Rattle.std.proofs.lemmas.Result.{on_ok_weaker}
use Rattle.nim_program.specs.Program.{Empty}
use Rattle.nim_program.specs.View.{stmt_before, stmts_of}
use Rattle.nim_program.proofs.ForCallers.{decided, selected_statement, repeated, tried, deferred}
use Rattle.decl_rules.specs.Occurrences.{in_block}
use Rattle.check_uses.specs.Uses.{seen, in_first}
use Rattle.check_uses.proofs.Adding.{as_first, block_next, two, three, value_adds, branches_add, arms_add}
use Rattle.check_uses.proofs.stmts.+stmts.Goals as goal

pub add_stmt-returns-in-Declare : goal.add_stmt-returns-in-Declare
add_stmt-returns-in-Declare t c =
    let given = c.in-Declare in
    on_ok_weaker c.add_value.result (λ h. h ∙ ap (λ x. seen c.args.uses.now ++ x)
    (sym (ap (λ s. in_first (stmt_before [] s Empty)) given.is ∙ value_adds given.value))) c.add_value.ensures

pub add_stmt-returns-in-Raise : goal.add_stmt-returns-in-Raise
add_stmt-returns-in-Raise t c =
    let given = c.in-Raise in
    on_ok_weaker c.add_value-in-Raise.result (λ h. h ∙ ap (λ x. seen c.args.uses.now ++ x)
    (sym (ap (λ s. in_first (stmt_before [] s Empty)) given.is ∙ value_adds given.message))) c.add_value-in-Raise.ensures

pub add_stmt-returns-in_ok-add_branches-in-If : goal.add_stmt-returns-in_ok-add_branches-in-If
add_stmt-returns-in_ok-add_branches-in-If t c =
    let given = c.in-If in
    on_ok_weaker c.add_block.result (λ h. as_first (seen c.args.uses.now) (seen c.add_block.new.uses) _ (stmt_before [] c.args.stmt.now Empty) _
    (ap (λ s. stmt_before [] s Empty) given.is ∙ decided [] given.node Empty given.branches given.otherwise)
    (branches_add given.branches.items (stmts_of [] given.otherwise.items))
    (two (seen c.args.uses.now) _ _ (seen c.add_branches.new.uses) (seen c.add_block.new.uses) c.in_ok-add_branches-in-If.ensures h)) c.add_block.ensures

pub add_stmt-returns-in_ok-add_arms-in-Case : goal.add_stmt-returns-in_ok-add_arms-in-Case
add_stmt-returns-in_ok-add_arms-in-Case t c =
    let given = c.in-Case in
    on_ok_weaker c.add_block-in-Case.result
    (λ h. as_first (seen c.args.uses.now) (seen c.add_block-in-Case.new.uses) _ (stmt_before [] c.args.stmt.now Empty) _
    (ap (λ s. stmt_before [] s Empty) given.is ∙ selected_statement [] given.node Empty given.selector given.branches given.otherwise)
    (arms_add given.selector given.branches.items (stmts_of [] given.otherwise.items))
    (three (seen c.args.uses.now) _ _ _ (seen c.add_operand.new.uses) (seen c.add_arms.new.uses) (seen c.add_block-in-Case.new.uses)
    c.in_ok-add_operand-in-Case.ensures c.in_ok-add_arms-in-Case.ensures h)) c.add_block-in-Case.ensures

pub add_stmt-returns-in_ok-add_operands-in-Loop : goal.add_stmt-returns-in_ok-add_operands-in-Loop
add_stmt-returns-in_ok-add_operands-in-Loop t c =
    let given = c.in-Loop in
    on_ok_weaker c.add_block-in-Loop.result
    (λ h. as_first (seen c.args.uses.now) (seen c.add_block-in-Loop.new.uses) _ (stmt_before [] c.args.stmt.now Empty) _
    (ap (λ s. stmt_before [] s Empty) given.is ∙ repeated [] given.node Empty given.kind given.head given.body) refl
    (two (seen c.args.uses.now) _ _ (seen c.add_operands.new.uses) (seen c.add_block-in-Loop.new.uses)
    c.in_ok-add_operands-in-Loop.ensures h)) c.add_block-in-Loop.ensures

pub add_stmt-returns-in_ok-add_handlers-in-Try : goal.add_stmt-returns-in_ok-add_handlers-in-Try
add_stmt-returns-in_ok-add_handlers-in-Try t c =
    let given = c.in-Try in
    on_ok_weaker c.add_block-in-Try-2.result
    (λ h. as_first (seen c.args.uses.now) (seen c.add_block-in-Try-2.new.uses) _ (stmt_before [] c.args.stmt.now Empty) _
    (ap (λ s. stmt_before [] s Empty) given.is ∙ tried [] given.node Empty given.body given.handlers given.last) refl
    (three (seen c.args.uses.now) _ _ _ (seen c.add_block-in-Try.new.uses) (seen c.add_handlers.new.uses) (seen c.add_block-in-Try-2.new.uses)
    c.in_ok-add_block-in-Try.ensures c.in_ok-add_handlers-in-Try.ensures h)) c.add_block-in-Try-2.ensures

pub add_stmt-returns-in-Defer : goal.add_stmt-returns-in-Defer
add_stmt-returns-in-Defer t c =
    let given = c.in-Defer in
    on_ok_weaker c.add_block-in-Defer.result
    (λ h. as_first (seen c.args.uses.now) (seen c.add_block-in-Defer.new.uses) _ (stmt_before [] c.args.stmt.now Empty) _
    (ap (λ s. stmt_before [] s Empty) given.is ∙ deferred [] given.node Empty given.last) refl h) c.add_block-in-Defer.ensures

pub add_block-loop-stmt-preserved : goal.add_block-loop-stmt-preserved
add_block-loop-stmt-preserved t c =
    let xs = c.args.block.now.items in
    block_next (seen c.loop-stmt.uses) (seen c.add_stmt.new.uses) (seen c.args.uses.now ++ in_block (stmts_of [] xs)) xs c.loop-stmt.stmt-index
    c.stmt-item.result (omega (arith, c.loop-stmt-test.true))
    (c.stmt-item.is ∙ ap (λ l. get_or l c.loop-stmt.stmt-index c.stmt-item.result) c.deref-stmt-items.ensures.value)
    c.loop-stmt.invariant c.in_ok-add_stmt.ensures
