use Rattle.std.proofs.Common.{◌≡◌, ◌≤◌, ◌+◌, ◌*◌, drop}
use Rattle.nim_tree.specs.Terms.{term_of, parts_of, choices_of, nodes, nodes_in, nodes_of}
use Rattle.decl_rules.specs.LeftOut.{left_in_parts, left_in_choices}
use Rattle.check_forms.specs.Waiting.{names_in}
use Rattle.check_forms.proofs.terms.+terms.Given as goal

abbrev pub decreases-of_term : goal.decreases-of_term
decreases-of_term l = 2 * nodes (term_of l.tree.now)

abbrev pub decreases-of_parts : goal.decreases-of_parts
decreases-of_parts l = 2 * nodes_in (parts_of l.parts.now) + 1

abbrev pub decreases-of_choices : goal.decreases-of_choices
decreases-of_choices l = 2 * nodes_of (choices_of l.choices.now) + 1

-- the whole is what the rest is
abbrev pub invariant-of_parts-loop-part : goal.invariant-of_parts-loop-part
invariant-of_parts-loop-part l = record {
  light : nodes_in (parts_of (drop l.part-index l.parts)) ≤ nodes_in (parts_of l.fn.parts);
  rest : left_in_parts (names_in l.names) (parts_of l.fn.parts) ≡ left_in_parts (names_in l.names) (parts_of (drop l.part-index l.parts));
}

abbrev pub invariant-of_choices-loop-choice : goal.invariant-of_choices-loop-choice
invariant-of_choices-loop-choice l = record {
  light : nodes_of (choices_of (drop l.choice-index l.choices)) ≤ nodes_of (choices_of l.fn.choices);
  rest : left_in_choices (names_in l.names) (choices_of l.fn.choices) ≡ left_in_choices (names_in l.names) (choices_of (drop l.choice-index l.choices));
}
