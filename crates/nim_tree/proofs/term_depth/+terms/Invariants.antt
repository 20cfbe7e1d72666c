use Rattle.std.proofs.Common.{◌≡◌, ◌≤◌, ◌-◌, ◌^◌, ◌+◌, ◌*◌, min, drop}
use Rattle.std.specs.Prelude.{max}
use Rattle.nim_tree.specs.Statements.{statement_of, statements_of, branches_of, handlers_of, nodes_of, all_nodes, branch_nodes, handler_nodes, term_levels}
use Rattle.nim_tree.specs.Statements.{branch_term_levels, handler_term_levels}
use Rattle.nim_tree.proofs.term_depth.+terms.Given as goal

abbrev pub decreases-in_statement : goal.decreases-in_statement
decreases-in_statement l = 2 * nodes_of (statement_of l.statement.now)

abbrev pub decreases-in_statements : goal.decreases-in_statements
decreases-in_statements l = 2 * all_nodes (statements_of l.statements.now) + 1

abbrev pub decreases-in_branches : goal.decreases-in_branches
decreases-in_branches l = 2 * branch_nodes (branches_of l.branches.now) + 1

abbrev pub decreases-in_handlers : goal.decreases-in_handlers
decreases-in_handlers l = 2 * handler_nodes (handlers_of l.handlers.now) + 1

-- what is left has the levels that were not seen
abbrev pub invariant-in_statements-loop-statement : goal.invariant-in_statements-loop-statement
invariant-in_statements-loop-statement l = record {
  light : all_nodes (statements_of (drop l.statement-index l.statements)) ≤ all_nodes (statements_of l.fn.statements);
  most : max l.most (min (term_levels (statements_of (drop l.statement-index l.statements))) (2 ^ 32 - 1)) ≡ min (term_levels (statements_of l.fn.statements))
      (2 ^ 32 - 1);
}

abbrev pub invariant-in_branches-loop-branch : goal.invariant-in_branches-loop-branch
invariant-in_branches-loop-branch l = record {
  light : branch_nodes (branches_of (drop l.branch-index l.branches)) ≤ branch_nodes (branches_of l.fn.branches);
  most : max l.most (min (branch_term_levels (branches_of (drop l.branch-index l.branches))) (2 ^ 32 - 1))
      ≡ min (branch_term_levels (branches_of l.fn.branches)) (2 ^ 32 - 1);
}

abbrev pub invariant-in_handlers-loop-handler : goal.invariant-in_handlers-loop-handler
invariant-in_handlers-loop-handler l = record {
  light : handler_nodes (handlers_of (drop l.handler-index l.handlers)) ≤ handler_nodes (handlers_of l.fn.handlers);
  most : max l.most (min (handler_term_levels (handlers_of (drop l.handler-index l.handlers))) (2 ^ 32 - 1))
      ≡ min (handler_term_levels (handlers_of l.fn.handlers)) (2 ^ 32 - 1);
}
