use Rattle.std.proofs.Common.{◌≡◌, ◌≤◌, ◌-◌, ◌^◌, ◌+◌, ◌*◌, min, drop}
use Rattle.nim_tree.specs.Statements.{statement_of, statements_of, branches_of, handlers_of, nodes_of, all_nodes, branch_nodes, handler_nodes}
use Rattle.nim_tree.proofs.count.+nodes.Given as goal

abbrev pub decreases-of_statement : goal.decreases-of_statement
decreases-of_statement l = 2 * nodes_of (statement_of l.statement.now)

abbrev pub decreases-of_statements : goal.decreases-of_statements
decreases-of_statements l = 2 * all_nodes (statements_of l.statements.now) + 1

abbrev pub decreases-of_branches : goal.decreases-of_branches
decreases-of_branches l = 2 * branch_nodes (branches_of l.branches.now) + 1

abbrev pub decreases-of_handlers : goal.decreases-of_handlers
decreases-of_handlers l = 2 * handler_nodes (handlers_of l.handlers.now) + 1

-- with what is left it is the whole
abbrev pub invariant-of_statements-loop-statement : goal.invariant-of_statements-loop-statement
invariant-of_statements-loop-statement l = record {
  light : all_nodes (statements_of (drop l.statement-index l.statements)) ≤ all_nodes (statements_of l.fn.statements);
  small : l.all ≤ 2 ^ 32 - 1;
  all : min (l.all + all_nodes (statements_of (drop l.statement-index l.statements))) (2 ^ 32 - 1) ≡ min (all_nodes (statements_of l.fn.statements))
      (2 ^ 32 - 1);
}

abbrev pub invariant-of_branches-loop-branch : goal.invariant-of_branches-loop-branch
invariant-of_branches-loop-branch l = record {
  light : branch_nodes (branches_of (drop l.branch-index l.branches)) ≤ branch_nodes (branches_of l.fn.branches);
  small : l.all ≤ 2 ^ 32 - 1;
  all : min (l.all + branch_nodes (branches_of (drop l.branch-index l.branches))) (2 ^ 32 - 1) ≡ min (branch_nodes (branches_of l.fn.branches)) (2 ^ 32 - 1);
}

abbrev pub invariant-of_handlers-loop-handler : goal.invariant-of_handlers-loop-handler
invariant-of_handlers-loop-handler l = record {
  light : handler_nodes (handlers_of (drop l.handler-index l.handlers)) ≤ handler_nodes (handlers_of l.fn.handlers);
  small : l.all ≤ 2 ^ 32 - 1;
  all : min (l.all + handler_nodes (handlers_of (drop l.handler-index l.handlers))) (2 ^ 32 - 1) ≡ min (handler_nodes (handlers_of l.fn.handlers)) (2 ^ 32 - 1);
}
