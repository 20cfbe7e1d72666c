use Rattle.std.proofs.Common.{◌≡◌, ◌≤◌, ◌+◌, ◌*◌, drop}
use Rattle.nim_tree.specs.Types.{written_of, arguments_of, fields_of, type_nodes, argument_nodes, field_nodes}
use Rattle.decl_rules.specs.LeftOut.{left_in_arguments, left_in_fields}
use Rattle.check_forms.specs.Waiting.{names_in}
use Rattle.check_forms.proofs.types.+types.Given as goal

abbrev pub decreases-of_type : goal.decreases-of_type
decreases-of_type l = 2 * type_nodes (written_of l.tree.now)

abbrev pub decreases-of_arguments : goal.decreases-of_arguments
decreases-of_arguments l = 2 * argument_nodes (arguments_of l.arguments.now) + 1

abbrev pub decreases-of_fields : goal.decreases-of_fields
decreases-of_fields l = 2 * field_nodes (fields_of l.fields.now) + 1

-- the whole is what the rest is
abbrev pub invariant-of_arguments-loop-argument : goal.invariant-of_arguments-loop-argument
invariant-of_arguments-loop-argument l = record {
  light : argument_nodes (arguments_of (drop l.argument-index l.arguments)) ≤ argument_nodes (arguments_of l.fn.arguments);
  rest : left_in_arguments (names_in l.names) (arguments_of l.fn.arguments)
      ≡ left_in_arguments (names_in l.names) (arguments_of (drop l.argument-index l.arguments));
}

abbrev pub invariant-of_fields-loop-field : goal.invariant-of_fields-loop-field
invariant-of_fields-loop-field l = record {
  light : field_nodes (fields_of (drop l.field-index l.fields)) ≤ field_nodes (fields_of l.fn.fields);
  rest : left_in_fields (names_in l.names) (fields_of l.fn.fields) ≡ left_in_fields (names_in l.names) (fields_of (drop l.field-index l.fields));
}
