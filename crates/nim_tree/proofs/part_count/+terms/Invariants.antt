use Rattle.std.proofs.Common.{◌≡◌, ◌≤◌, ◌-◌, ◌^◌, ◌+◌, ◌*◌, min, drop}
use Rattle.nim_tree.specs.Terms.{term_of, parts_of, choices_of, nodes, nodes_in, nodes_of}
use Rattle.nim_tree.proofs.part_count.+terms.Given as goal

abbrev pub decreases-of_term : goal.decreases-of_term
decreases-of_term l = 2 * nodes (term_of l.tree.now)

abbrev pub decreases-of_terms : goal.decreases-of_terms
decreases-of_terms l = 2 * nodes_in (parts_of l.parts.now) + 1

abbrev pub decreases-of_choices : goal.decreases-of_choices
decreases-of_choices l = 2 * nodes_of (choices_of l.branches.now) + 1

-- with what is left it is the whole
abbrev pub invariant-of_terms-loop-part : goal.invariant-of_terms-loop-part
invariant-of_terms-loop-part l = record {
  light : nodes_in (parts_of (drop l.part-index l.parts)) ≤ nodes_in (parts_of l.fn.parts);
  small : l.all ≤ 2 ^ 32 - 1;
  all : min (l.all + nodes_in (parts_of (drop l.part-index l.parts))) (2 ^ 32 - 1) ≡ min (nodes_in (parts_of l.fn.parts)) (2 ^ 32 - 1);
}

abbrev pub invariant-of_choices-loop-branch : goal.invariant-of_choices-loop-branch
invariant-of_choices-loop-branch l = record {
  light : nodes_of (choices_of (drop l.branch-index l.branches)) ≤ nodes_of (choices_of l.fn.branches);
  small : l.all ≤ 2 ^ 32 - 1;
  all : min (l.all + nodes_of (choices_of (drop l.branch-index l.branches))) (2 ^ 32 - 1) ≡ min (nodes_of (choices_of l.fn.branches)) (2 ^ 32 - 1);
}
