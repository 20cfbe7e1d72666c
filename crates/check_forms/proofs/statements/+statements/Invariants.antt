use Rattle.std.proofs.Common.{◌≡◌, ◌≤◌, ◌+◌, ◌*◌, drop}
use Rattle.nim_tree.specs.Statements.{statement_of, statements_of, branches_of, nodes_of, all_nodes, branch_nodes}
use Rattle.decl_rules.specs.LeftOut.{left_in_statements, left_in_branches}
use Rattle.check_forms.specs.Waiting.{names_in}
use Rattle.check_forms.proofs.statements.+statements.Given as goal

abbrev pub decreases-of_statement : goal.decreases-of_statement
decreases-of_statement l = 2 * nodes_of (statement_of l.statement.now)

abbrev pub decreases-of_statements : goal.decreases-of_statements
decreases-of_statements l = 2 * all_nodes (statements_of l.statements.now) + 1

abbrev pub decreases-of_branches : goal.decreases-of_branches
decreases-of_branches l = 2 * branch_nodes (branches_of l.branches.now) + 1

-- the whole is what the rest is
abbrev pub invariant-of_statements-loop-statement : goal.invariant-of_statements-loop-statement
invariant-of_statements-loop-statement l = record {
  light : all_nodes (statements_of (drop l.statement-index l.statements)) ≤ all_nodes (statements_of l.fn.statements);
  rest : left_in_statements (names_in l.names) (statements_of l.fn.statements)
      ≡ left_in_statements (names_in l.names) (statements_of (drop l.statement-index l.statements));
}

abbrev pub invariant-of_branches-loop-branch : goal.invariant-of_branches-loop-branch
invariant-of_branches-loop-branch l = record {
  light : branch_nodes (branches_of (drop l.branch-index l.branches)) ≤ branch_nodes (branches_of l.fn.branches);
  rest : left_in_branches (names_in l.names) (branches_of l.fn.branches)
      ≡ left_in_branches (names_in l.names) (branches_of (drop l.branch-index l.branches));
}
