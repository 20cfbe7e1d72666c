use Rattle.std.proofs.Common.{◌+◌, List, drop, true, false, sym, ap, ◌∙◌, arith}
use Rattle.nim_tree.specs.declared.stmt.Branch.{Branch}
use Rattle.nim_tree.specs.declared.stmt.Handler.{Handler}
use Rattle.nim_tree.specs.declared.stmt.Stmt.{Stmt}
use Rattle.nim_tree.specs.Statements.{statement_of, statements_of, branches_of, handlers_of, all_nodes, branch_nodes, handler_nodes}
use Rattle.expr_rules.specs.Constructions.{is_among}
use Rattle.decl_rules.specs.LeftOut.{declared_by, declared_in, declared_in_branches, declared_in_handlers}
use Rattle.check_forms.proofs.Naming.{next_item, among_first}
use Rattle.check_forms.proofs.declared.+declared.Goals as goal

pub is_declared-returns-then-by_statement : goal.is_declared-returns-then-by_statement
is_declared-returns-then-by_statement t c =
    let xs = c.args.statements.now in
    let i = c.loop-statement.statement-index in
    let rest = drop (i + 1) xs in
    let split = next_item xs i c.statement-item.result c.statement-item.is c.loop-statement-test.true in
    let some = declared_by (statement_of c.statement-item.result) in
    let among = λ (ss : List Stmt). is_among c.args.name.now (declared_in (statements_of ss)) in
    sym (c.loop-statement.invariant.rest ∙ ap among split
    ∙ among_first c.args.name.now some (declared_in (statements_of rest)) true (sym c.by_statement.ensures ∙ c.if-by_statement.true))

pub is_declared-loop-statement-preserved : goal.is_declared-loop-statement-preserved
is_declared-loop-statement-preserved t c =
    let xs = c.args.statements.now in
    let i = c.loop-statement.statement-index in
    let rest = drop (i + 1) xs in
    let split = next_item xs i c.statement-item.result c.statement-item.is c.loop-statement-test.true in
    let some = declared_by (statement_of c.statement-item.result) in
    let among = λ (ss : List Stmt). is_among c.args.name.now (declared_in (statements_of ss)) in
    record {
      light = omega (arith, c.loop-statement.invariant.light, ap (λ (ss : List Stmt). all_nodes (statements_of ss)) split);
      rest = c.loop-statement.invariant.rest ∙ ap among split
          ∙ among_first c.args.name.now some (declared_in (statements_of rest)) false (sym c.by_statement.ensures ∙ c.if-by_statement.false);
    }

pub in_branches-returns-then-is_declared : goal.in_branches-returns-then-is_declared
in_branches-returns-then-is_declared t c =
    let xs = c.args.branches.now in
    let i = c.loop-branch.branch-index in
    let rest = drop (i + 1) xs in
    let split = next_item xs i c.branch-item.result c.branch-item.is c.loop-branch-test.true in
    let block = λ (ss : List Stmt). is_among c.args.name.now (declared_in (statements_of ss)) in
    let some = declared_in (statements_of c.branch-item.result.body.items) in
    let among = λ (ss : List Branch). is_among c.args.name.now (declared_in_branches (branches_of ss)) in
    sym (c.loop-branch.invariant.rest ∙ ap among split
    ∙ among_first c.args.name.now some (declared_in_branches (branches_of rest)) true
    (sym (ap block c.deref.ensures.value) ∙ sym c.is_declared.ensures ∙ c.if-is_declared.true))

pub in_branches-loop-branch-preserved : goal.in_branches-loop-branch-preserved
in_branches-loop-branch-preserved t c =
    let xs = c.args.branches.now in
    let i = c.loop-branch.branch-index in
    let rest = drop (i + 1) xs in
    let split = next_item xs i c.branch-item.result c.branch-item.is c.loop-branch-test.true in
    let block = λ (ss : List Stmt). is_among c.args.name.now (declared_in (statements_of ss)) in
    let some = declared_in (statements_of c.branch-item.result.body.items) in
    let among = λ (ss : List Branch). is_among c.args.name.now (declared_in_branches (branches_of ss)) in
    record {
      light = omega (arith, c.loop-branch.invariant.light, ap (λ (ss : List Branch). branch_nodes (branches_of ss)) split);
      rest = c.loop-branch.invariant.rest ∙ ap among split
          ∙ among_first c.args.name.now some (declared_in_branches (branches_of rest)) false
          (sym (ap block c.deref.ensures.value) ∙ sym c.is_declared.ensures ∙ c.if-is_declared.false);
    }

pub in_handlers-returns-then-is_declared : goal.in_handlers-returns-then-is_declared
in_handlers-returns-then-is_declared t c =
    let xs = c.args.handlers.now in
    let i = c.loop-handler.handler-index in
    let rest = drop (i + 1) xs in
    let split = next_item xs i c.handler-item.result c.handler-item.is c.loop-handler-test.true in
    let block = λ (ss : List Stmt). is_among c.args.name.now (declared_in (statements_of ss)) in
    let some = declared_in (statements_of c.handler-item.result.body.items) in
    let among = λ (ss : List Handler). is_among c.args.name.now (declared_in_handlers (handlers_of ss)) in
    sym (c.loop-handler.invariant.rest ∙ ap among split
    ∙ among_first c.args.name.now some (declared_in_handlers (handlers_of rest)) true
    (sym (ap block c.deref.ensures.value) ∙ sym c.is_declared.ensures ∙ c.if-is_declared.true))

pub in_handlers-loop-handler-preserved : goal.in_handlers-loop-handler-preserved
in_handlers-loop-handler-preserved t c =
    let xs = c.args.handlers.now in
    let i = c.loop-handler.handler-index in
    let rest = drop (i + 1) xs in
    let split = next_item xs i c.handler-item.result c.handler-item.is c.loop-handler-test.true in
    let block = λ (ss : List Stmt). is_among c.args.name.now (declared_in (statements_of ss)) in
    let some = declared_in (statements_of c.handler-item.result.body.items) in
    let among = λ (ss : List Handler). is_among c.args.name.now (declared_in_handlers (handlers_of ss)) in
    record {
      light = omega (arith, c.loop-handler.invariant.light, ap (λ (ss : List Handler). handler_nodes (handlers_of ss)) split);
      rest = c.loop-handler.invariant.rest ∙ ap among split
          ∙ among_first c.args.name.now some (declared_in_handlers (handlers_of rest)) false
          (sym (ap block c.deref.ensures.value) ∙ sym c.is_declared.ensures ∙ c.if-is_declared.false);
    }
