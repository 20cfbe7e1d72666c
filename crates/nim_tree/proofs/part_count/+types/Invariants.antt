use Rattle.std.proofs.Common.{◌≡◌, ◌≤◌, ◌-◌, ◌^◌, ◌+◌, ◌*◌, min, drop}
use Rattle.nim_tree.specs.Types.{written_of, arguments_of, fields_of, type_nodes, argument_nodes, field_nodes}
use Rattle.nim_tree.proofs.part_count.+types.Given as goal

abbrev pub decreases-of_type : goal.decreases-of_type
decreases-of_type l = 2 * type_nodes (written_of l.tree.now)

abbrev pub decreases-of_arguments : goal.decreases-of_arguments
decreases-of_arguments l = 2 * argument_nodes (arguments_of l.arguments.now) + 1

abbrev pub decreases-of_fields : goal.decreases-of_fields
decreases-of_fields l = 2 * field_nodes (fields_of l.fields.now) + 1

-- with what is left it is the whole
abbrev pub invariant-of_arguments-loop-argument : goal.invariant-of_arguments-loop-argument
invariant-of_arguments-loop-argument l = record {
  light : argument_nodes (arguments_of (drop l.argument-index l.arguments)) ≤ argument_nodes (arguments_of l.fn.arguments);
  small : l.all ≤ 2 ^ 32 - 1;
  all : min (l.all + argument_nodes (arguments_of (drop l.argument-index l.arguments))) (2 ^ 32 - 1) ≡ min (argument_nodes (arguments_of l.fn.arguments))
      (2 ^ 32 - 1);
}

abbrev pub invariant-of_fields-loop-field : goal.invariant-of_fields-loop-field
invariant-of_fields-loop-field l = record {
  light : field_nodes (fields_of (drop l.field-index l.fields)) ≤ field_nodes (fields_of l.fn.fields);
  small : l.all ≤ 2 ^ 32 - 1;
  all : min (l.all + field_nodes (fields_of (drop l.field-index l.fields))) (2 ^ 32 - 1) ≡ min (field_nodes (fields_of l.fn.fields)) (2 ^ 32 - 1);
}
