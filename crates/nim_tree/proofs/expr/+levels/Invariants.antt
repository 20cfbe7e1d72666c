use Rattle.std.proofs.Common.{◌≡◌, ◌≤◌, ◌-◌, ◌^◌, ◌+◌, ◌*◌, min, drop}
use Rattle.std.specs.Prelude.{max}
use Rattle.nim_tree.specs.Terms.{term_of, parts_of, choices_of, nodes, nodes_in, nodes_of, most_levels, levels_in}
use Rattle.nim_tree.proofs.expr.+levels.Given as goal

abbrev pub decreases-levels_of : goal.decreases-levels_of
decreases-levels_of l = 2 * nodes (term_of l.tree.now)

abbrev pub decreases-most_levels : goal.decreases-most_levels
decreases-most_levels l = 2 * nodes_in (parts_of l.parts.now) + 1

abbrev pub decreases-levels_in : goal.decreases-levels_in
decreases-levels_in l = 2 * nodes_of (choices_of l.branches.now) + 1

-- what is left has the levels that were not seen
abbrev pub invariant-most_levels-loop-part : goal.invariant-most_levels-loop-part
invariant-most_levels-loop-part l = record {
  light : nodes_in (parts_of (drop l.part-index l.parts)) ≤ nodes_in (parts_of l.fn.parts);
  most : max l.most (min (most_levels (parts_of (drop l.part-index l.parts))) (2 ^ 32 - 1)) ≡ min (most_levels (parts_of l.fn.parts)) (2 ^ 32 - 1);
}

abbrev pub invariant-levels_in-loop-branch : goal.invariant-levels_in-loop-branch
invariant-levels_in-loop-branch l = record {
  light : nodes_of (choices_of (drop l.branch-index l.branches)) ≤ nodes_of (choices_of l.fn.branches);
  most : max l.most (min (levels_in (choices_of (drop l.branch-index l.branches))) (2 ^ 32 - 1)) ≡ min (levels_in (choices_of l.fn.branches)) (2 ^ 32 - 1);
}
