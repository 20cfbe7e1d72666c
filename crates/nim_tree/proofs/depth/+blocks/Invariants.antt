use Rattle.std.proofs.Common.{◌≡◌, ◌≤◌, ◌-◌, ◌^◌, ◌+◌, ◌*◌, min, drop}
use Rattle.std.specs.Prelude.{max}
use Rattle.nim_tree.specs.Statements.{statement_of, statements_of, branches_of, handlers_of, nodes_of, all_nodes, branch_nodes, handler_nodes, block_levels}
use Rattle.nim_tree.specs.Statements.{branch_block_levels, handler_block_levels}
use Rattle.nim_tree.proofs.depth.+blocks.Given as goal

abbrev pub decreases-blocks_of : goal.decreases-blocks_of
decreases-blocks_of l = 3 * nodes_of (statement_of l.statement.now)

abbrev pub decreases-blocks_in : goal.decreases-blocks_in
decreases-blocks_in l = 3 * all_nodes (statements_of l.statements.now) + 1

abbrev pub decreases-blocks_with : goal.decreases-blocks_with
decreases-blocks_with l = 3 * all_nodes (statements_of l.block.now) + 2

abbrev pub decreases-blocks_in_branches : goal.decreases-blocks_in_branches
decreases-blocks_in_branches l = 3 * branch_nodes (branches_of l.branches.now) + 1

abbrev pub decreases-blocks_in_handlers : goal.decreases-blocks_in_handlers
decreases-blocks_in_handlers l = 3 * handler_nodes (handlers_of l.handlers.now) + 1

-- what is left has the levels that were not seen
abbrev pub invariant-blocks_in-loop-statement : goal.invariant-blocks_in-loop-statement
invariant-blocks_in-loop-statement l = record {
  light : all_nodes (statements_of (drop l.statement-index l.statements)) ≤ all_nodes (statements_of l.fn.statements);
  most : max l.most (min (block_levels (statements_of (drop l.statement-index l.statements))) (2 ^ 32 - 1)) ≡ min (block_levels (statements_of l.fn.statements))
      (2 ^ 32 - 1);
}

abbrev pub invariant-blocks_in_branches-loop-branch : goal.invariant-blocks_in_branches-loop-branch
invariant-blocks_in_branches-loop-branch l = record {
  light : branch_nodes (branches_of (drop l.branch-index l.branches)) ≤ branch_nodes (branches_of l.fn.branches);
  most : max l.most (min (branch_block_levels (branches_of (drop l.branch-index l.branches))) (2 ^ 32 - 1))
      ≡ min (branch_block_levels (branches_of l.fn.branches)) (2 ^ 32 - 1);
}

abbrev pub invariant-blocks_in_handlers-loop-handler : goal.invariant-blocks_in_handlers-loop-handler
invariant-blocks_in_handlers-loop-handler l = record {
  light : handler_nodes (handlers_of (drop l.handler-index l.handlers)) ≤ handler_nodes (handlers_of l.fn.handlers);
  most : max l.most (min (handler_block_levels (handlers_of (drop l.handler-index l.handlers))) (2 ^ 32 - 1))
      ≡ min (handler_block_levels (handlers_of l.fn.handlers)) (2 ^ 32 - 1);
}
