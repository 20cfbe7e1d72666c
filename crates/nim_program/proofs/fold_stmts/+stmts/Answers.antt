use Rattle.std.proofs.Common.{◌∙◌, sym, ap, ap₂}
use Rattle.nim_program.specs.Program.{Empty}
use Rattle.nim_program.specs.View.{stmt_before, stmts_of, case_blocks}
use Rattle.nim_program.specs.Folds.{in_turn, total_of, each_block}
use Rattle.nim_program.specs.FoldParts.{seen_first, own_if}
use Rattle.nim_program.proofs.StmtRows.{decided, selected, repeated, tried, deferred}
use Rattle.nim_program.proofs.FoldLemmas.{one_first}
use Rattle.nim_program.proofs.fold_stmts.+stmts.Goals as goal

pub stmt_total-returns-in-If : goal.stmt_total-returns-in-If
stmt_total-returns-in-If g t c rest e =
    let given = c.in-If in
    let ts = g.F.Fold.types c.args.fold.now in
    let sum = g.F.Fold.sum c.args.fold.now in
    let own = g.F.Fold.own c.args.fold.now in
    let alone = c.of_stmt-own.ensures ∙ ap (λ s. own_if sum own (seen_first (stmt_before ts s Empty))) given.is in
    let whole = ap (λ s. total_of sum own (stmt_before ts s rest)) given.is
    ∙ ap (total_of sum own) (decided ts given.node rest given.branches given.otherwise) in
    let last = c.plus-last.ensures ∙ ap₂ sum.plus c.total_of.ensures c.none.ensures in
    let parts = c.branch_totals-parts.ensures (stmts_of ts given.otherwise.items) last in
    c.plus-in-If-2.ensures ∙ ap₂ sum.plus (c.plus-in-If.ensures ∙ ap₂ sum.plus alone parts) e ∙ sym whole

pub stmt_total-returns-in-Case : goal.stmt_total-returns-in-Case
stmt_total-returns-in-Case g t c rest e =
    let given = c.in-Case in
    let ts = g.F.Fold.types c.args.fold.now in
    let sum = g.F.Fold.sum c.args.fold.now in
    let own = g.F.Fold.own c.args.fold.now in
    let alone = c.of_stmt-own.ensures ∙ ap (λ s. own_if sum own (seen_first (stmt_before ts s Empty))) given.is
    ∙ ap (λ b. own_if sum own (seen_first b)) (selected ts given.node Empty given.selector given.branches given.otherwise) in
    let whole = ap (λ s. total_of sum own (stmt_before ts s rest)) given.is
    ∙ ap (total_of sum own) (selected ts given.node rest given.selector given.branches given.otherwise) in
    let last = c.plus-last-in-Case.ensures ∙ ap₂ sum.plus c.total_of-in-Case.ensures c.none-in-Case.ensures in
    let blocks = each_block sum own (case_blocks ts given.branches.items (stmts_of ts given.otherwise.items)) in
    let behind = c.case_totals-blocks.ensures (stmts_of ts given.otherwise.items) last in
    let parts = c.plus-parts.ensures ∙ ap (sum.plus c.test_total.result) behind ∙ sym (one_first sum c.test_total.result blocks)
    ∙ ap (λ tests. in_turn sum tests blocks) (sym c.test_total.ensures) in
    c.plus-in-Case-2.ensures ∙ ap₂ sum.plus (c.plus-in-Case.ensures ∙ ap₂ sum.plus alone parts) e ∙ sym whole

pub stmt_total-returns-in-Loop : goal.stmt_total-returns-in-Loop
stmt_total-returns-in-Loop g t c rest e =
    let given = c.in-Loop in
    let ts = g.F.Fold.types c.args.fold.now in
    let sum = g.F.Fold.sum c.args.fold.now in
    let own = g.F.Fold.own c.args.fold.now in
    let alone = c.of_stmt-own.ensures ∙ ap (λ s. own_if sum own (seen_first (stmt_before ts s Empty))) given.is in
    let whole = ap (λ s. total_of sum own (stmt_before ts s rest)) given.is
    ∙ ap (total_of sum own) (repeated ts given.node rest given.kind given.head given.body) in
    let parts = c.plus-parts-in-Loop.ensures ∙ ap₂ sum.plus c.totals-in-Loop.ensures c.total_of-in-Loop.ensures in
    c.plus-in-Loop-2.ensures ∙ ap₂ sum.plus (c.plus-in-Loop.ensures ∙ ap₂ sum.plus alone parts) e ∙ sym whole

pub stmt_total-returns-in-Try : goal.stmt_total-returns-in-Try
stmt_total-returns-in-Try g t c rest e =
    let given = c.in-Try in
    let ts = g.F.Fold.types c.args.fold.now in
    let sum = g.F.Fold.sum c.args.fold.now in
    let own = g.F.Fold.own c.args.fold.now in
    let alone = c.of_stmt-own.ensures ∙ ap (λ s. own_if sum own (seen_first (stmt_before ts s Empty))) given.is in
    let whole = ap (λ s. total_of sum own (stmt_before ts s rest)) given.is
    ∙ ap (total_of sum own) (tried ts given.node rest given.body given.handlers given.last) in
    let behind = c.plus-behind.ensures ∙ ap₂ sum.plus c.handler_totals.ensures c.total_of-in-Try.ensures in
    let parts = c.plus-parts-in-Try.ensures ∙ ap₂ sum.plus c.total_of-in-Try-2.ensures behind in
    c.plus-in-Try-2.ensures ∙ ap₂ sum.plus (c.plus-in-Try.ensures ∙ ap₂ sum.plus alone parts) e ∙ sym whole

pub stmt_total-returns-in-Defer : goal.stmt_total-returns-in-Defer
stmt_total-returns-in-Defer g t c rest e =
    let given = c.in-Defer in
    let ts = g.F.Fold.types c.args.fold.now in
    let sum = g.F.Fold.sum c.args.fold.now in
    let own = g.F.Fold.own c.args.fold.now in
    let alone = c.of_stmt-own.ensures ∙ ap (λ s. own_if sum own (seen_first (stmt_before ts s Empty))) given.is in
    let whole = ap (λ s. total_of sum own (stmt_before ts s rest)) given.is
    ∙ ap (total_of sum own) (deferred ts given.node rest given.last) in
    let parts = c.plus-in-Defer.ensures ∙ ap₂ sum.plus c.total_of-in-Defer.ensures e in
    c.plus-in-Defer-2.ensures ∙ ap₂ sum.plus alone parts ∙ sym whole
