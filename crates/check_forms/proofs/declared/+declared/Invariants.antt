use Rattle.std.proofs.Common.{◌≡◌, ◌≤◌, ◌+◌, ◌*◌, drop}
use Rattle.nim_tree.specs.Statements.{statement_of, statements_of, branches_of, handlers_of, nodes_of, all_nodes, branch_nodes, handler_nodes}
use Rattle.expr_rules.specs.Constructions.{is_among}
use Rattle.decl_rules.specs.LeftOut.{declared_in, declared_in_branches, declared_in_handlers}
use Rattle.check_forms.proofs.declared.+declared.Given as goal

abbrev pub decreases-by_statement : goal.decreases-by_statement
decreases-by_statement l = 2 * nodes_of (statement_of l.statement.now)

abbrev pub decreases-is_declared : goal.decreases-is_declared
decreases-is_declared l = 2 * all_nodes (statements_of l.statements.now) + 1

abbrev pub decreases-in_branches : goal.decreases-in_branches
decreases-in_branches l = 2 * branch_nodes (branches_of l.branches.now) + 1

abbrev pub decreases-in_handlers : goal.decreases-in_handlers
decreases-in_handlers l = 2 * handler_nodes (handlers_of l.handlers.now) + 1

-- the whole is what the rest is
abbrev pub invariant-is_declared-loop-statement : goal.invariant-is_declared-loop-statement
invariant-is_declared-loop-statement l = record {
  light : all_nodes (statements_of (drop l.statement-index l.statements)) ≤ all_nodes (statements_of l.fn.statements);
  rest : is_among l.name (declared_in (statements_of l.fn.statements))
      ≡ is_among l.name (declared_in (statements_of (drop l.statement-index l.statements)));
}

abbrev pub invariant-in_branches-loop-branch : goal.invariant-in_branches-loop-branch
invariant-in_branches-loop-branch l = record {
  light : branch_nodes (branches_of (drop l.branch-index l.branches)) ≤ branch_nodes (branches_of l.fn.branches);
  rest : is_among l.name (declared_in_branches (branches_of l.fn.branches))
      ≡ is_among l.name (declared_in_branches (branches_of (drop l.branch-index l.branches)));
}

abbrev pub invariant-in_handlers-loop-handler : goal.invariant-in_handlers-loop-handler
invariant-in_handlers-loop-handler l = record {
  light : handler_nodes (handlers_of (drop l.handler-index l.handlers)) ≤ handler_nodes (handlers_of l.fn.handlers);
  rest : is_among l.name (declared_in_handlers (handlers_of l.fn.handlers))
      ≡ is_among l.name (declared_in_handlers (handlers_of (drop l.handler-index l.handlers)));
}
