use Rattle.std.proofs.Common.{◌≡◌, ◌≤◌, ◌-◌, ◌^◌, ◌+◌, ◌*◌, min, drop}
use Rattle.std.specs.Prelude.{max}
use Rattle.nim_tree.specs.Types.{written_of, arguments_of, fields_of, type_nodes, argument_nodes, field_nodes, most_type_levels, field_levels}
use Rattle.nim_tree.proofs.types.+levels.Given as goal

abbrev pub decreases-levels_of : goal.decreases-levels_of
decreases-levels_of l = 2 * type_nodes (written_of l.tree.now)

abbrev pub decreases-argument_levels : goal.decreases-argument_levels
decreases-argument_levels l = 2 * argument_nodes (arguments_of l.arguments.now) + 1

abbrev pub decreases-field_levels : goal.decreases-field_levels
decreases-field_levels l = 2 * field_nodes (fields_of l.fields.now) + 1

-- what is left has the levels that were not seen
abbrev pub invariant-argument_levels-loop-argument : goal.invariant-argument_levels-loop-argument
invariant-argument_levels-loop-argument l = record {
  light : argument_nodes (arguments_of (drop l.argument-index l.arguments)) ≤ argument_nodes (arguments_of l.fn.arguments);
  most : max l.most (min (most_type_levels (arguments_of (drop l.argument-index l.arguments))) (2 ^ 32 - 1))
      ≡ min (most_type_levels (arguments_of l.fn.arguments)) (2 ^ 32 - 1);
}

abbrev pub invariant-field_levels-loop-field : goal.invariant-field_levels-loop-field
invariant-field_levels-loop-field l = record {
  light : field_nodes (fields_of (drop l.field-index l.fields)) ≤ field_nodes (fields_of l.fn.fields);
  most : max l.most (min (field_levels (fields_of (drop l.field-index l.fields))) (2 ^ 32 - 1)) ≡ min (field_levels (fields_of l.fn.fields)) (2 ^ 32 - 1);
}
