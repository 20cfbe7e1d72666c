use Rattle.std.proofs.Common.{◌≤◌, ◌+◌, ◌*◌, suc, drop, None, []}
use Rattle.nim_tree.specs.Statements.{statement_of, statements_of, branches_of, nodes_of, all_nodes, branch_nodes}
use Rattle.nim_tree.specs.Terms.{parts_of, nodes_in}
use Rattle.nim_types.specs.Table.{type_at}
use Rattle.decl_rules.specs.Stated.{all_stated, all_branches, all_arms}
use Rattle.decl_parts.specs.View.{around_of, state_of}
use Rattle.decl_parts.proofs.ForCallers.{Left, steps_onto}
use Rattle.decl_stmts.proofs.Scopes.{branches_onto}
use Rattle.decl_stmts.proofs.Arming.{arms_onto}
use Rattle.decl_stmts.proofs.blocks.+statements.Given as goal

abbrev pub decreases-all_stated : goal.decreases-all_stated
decreases-all_stated l = 8 * all_nodes (statements_of l.trees.now) + 2

abbrev pub decreases-block : goal.decreases-block
decreases-block l = 8 * all_nodes (statements_of l.trees.now) + 3

abbrev pub decreases-all_branches : goal.decreases-all_branches
decreases-all_branches l = 8 * branch_nodes (branches_of l.trees.now) + 1

abbrev pub decreases-one_branch : goal.decreases-one_branch
decreases-one_branch l = 8 * suc (nodes_in (parts_of l.tree.now.tests.items) + all_nodes (statements_of l.tree.now.body.items))

abbrev pub decreases-branch_with : goal.decreases-branch_with
decreases-branch_with l = 8 * all_nodes (statements_of l.body.now) + 4

abbrev pub decreases-choice_with : goal.decreases-choice_with
decreases-choice_with l = 8 * all_nodes (statements_of l.otherwise.now) + 4

abbrev pub decreases-repetition_with : goal.decreases-repetition_with
decreases-repetition_with l = 8 * all_nodes (statements_of l.body.now) + 4

abbrev pub decreases-choice : goal.decreases-choice
decreases-choice l = 8 * (branch_nodes (branches_of l.branches.now) + all_nodes (statements_of l.otherwise.now)) + 5

abbrev pub decreases-repetition : goal.decreases-repetition
decreases-repetition l = 8 * all_nodes (statements_of l.body.now) + 5

abbrev pub decreases-loops::loop_body : goal.decreases-loops::loop_body
decreases-loops::loop_body l = 8 * all_nodes (statements_of l.trees.now) + 4

abbrev pub decreases-loops::each_typed : goal.decreases-loops::each_typed
decreases-loops::each_typed l = 8 * all_nodes (statements_of l.body.now) + 5

abbrev pub decreases-loops::each_with : goal.decreases-loops::each_with
decreases-loops::each_with l = 8 * all_nodes (statements_of l.body.now) + 6

abbrev pub decreases-loops::each_element : goal.decreases-loops::each_element
decreases-loops::each_element l = 8 * all_nodes (statements_of l.body.now) + 7

abbrev pub decreases-loops::ints_with : goal.decreases-loops::ints_with
decreases-loops::ints_with l = 8 * all_nodes (statements_of l.body.now) + 5

abbrev pub decreases-loops::int_with : goal.decreases-loops::int_with
decreases-loops::int_with l = 8 * all_nodes (statements_of l.body.now) + 6

abbrev pub decreases-loops::each_int : goal.decreases-loops::each_int
decreases-loops::each_int l = 8 * all_nodes (statements_of l.body.now) + 7

abbrev pub decreases-each : goal.decreases-each
decreases-each l = 8 * all_nodes (statements_of l.body.now) + 8

abbrev pub decreases-cases::all_arms : goal.decreases-cases::all_arms
decreases-cases::all_arms l = 8 * branch_nodes (branches_of l.trees.now) + 1

abbrev pub decreases-cases::one_arm : goal.decreases-cases::one_arm
decreases-cases::one_arm l = 8 * suc (nodes_in (parts_of l.tree.now.tests.items) + all_nodes (statements_of l.tree.now.body.items))

abbrev pub decreases-cases::arm_with : goal.decreases-cases::arm_with
decreases-cases::arm_with l = 8 * all_nodes (statements_of l.body.now) + 4

abbrev pub decreases-cases::selection_else : goal.decreases-cases::selection_else
decreases-cases::selection_else l = 8 * all_nodes (statements_of l.otherwise.now) + 4

abbrev pub decreases-cases::selection_with : goal.decreases-cases::selection_with
decreases-cases::selection_with l = 8 * (branch_nodes (branches_of l.branches.now) + all_nodes (statements_of l.otherwise.now)) + 5

abbrev pub decreases-cases::selection_by : goal.decreases-cases::selection_by
decreases-cases::selection_by l = 8 * (branch_nodes (branches_of l.branches.now) + all_nodes (statements_of l.otherwise.now)) + 6

abbrev pub decreases-cases::selection : goal.decreases-cases::selection
decreases-cases::selection l = 8 * (branch_nodes (branches_of l.branches.now) + all_nodes (statements_of l.otherwise.now)) + 7

abbrev pub decreases-statement : goal.decreases-statement
decreases-statement l = 8 * nodes_of (statement_of l.tree.now) + 1

-- what is done, before what the rest gives, is the whole
abbrev pub invariant-all_stated-loop-tree : goal.invariant-all_stated-loop-tree
invariant-all_stated-loop-tree l = record {
  light : all_nodes (statements_of (drop l.tree-index l.trees)) ≤ all_nodes (statements_of l.fn.trees);
  left : Left l.fn.state l.state (λ ts b. all_stated (around_of ts l.around) None (state_of ts b l.fn.state) (statements_of l.fn.trees))
      (λ ts b. all_stated (around_of ts l.around) None (state_of ts b l.state) (statements_of (drop l.tree-index l.trees)))
      (λ ts. steps_onto ts l.all.items);
}

abbrev pub invariant-all_branches-loop-tree : goal.invariant-all_branches-loop-tree
invariant-all_branches-loop-tree l = record {
  light : branch_nodes (branches_of (drop l.tree-index l.trees)) ≤ branch_nodes (branches_of l.fn.trees);
  left : Left l.fn.state l.state (λ ts b. all_branches (around_of ts l.around) (state_of ts b l.fn.state) (branches_of l.fn.trees))
      (λ ts b. all_branches (around_of ts l.around) (state_of ts b l.state) (branches_of (drop l.tree-index l.trees)))
      (λ ts. branches_onto ts l.all.items);
}

abbrev pub invariant-cases::all_arms-loop-tree : goal.invariant-cases::all_arms-loop-tree
invariant-cases::all_arms-loop-tree l = record {
  light : branch_nodes (branches_of (drop l.tree-index l.trees)) ≤ branch_nodes (branches_of l.fn.trees);
  left : Left l.fn.state l.state (λ ts b. all_arms (around_of ts l.around) (type_at ts l.ty) [] (state_of ts b l.fn.state) (branches_of l.fn.trees))
      (λ ts b. all_arms (around_of ts l.around) (type_at ts l.ty) l.labels (state_of ts b l.state) (branches_of (drop l.tree-index l.trees)))
      (λ ts. arms_onto ts l.all.items);
}
