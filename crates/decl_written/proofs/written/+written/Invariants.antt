use Rattle.std.proofs.Common.{◌≡◌, ℕ, ◌≤◌, ◌+◌, ◌*◌, List, [], length, drop}
use Rattle.std.specs.Prelude.{map, Ok}
use Rattle.arc_base.specs.Refusal.{and_then}
use Rattle.nim_tree.specs.Types.{written_of, arguments_of, fields_of, type_nodes, argument_nodes, field_nodes}
use Rattle.nim_types.specs.Types.{Ty, Facts}
use Rattle.nim_types.specs.Table.{types_at, AllBelow}
use Rattle.expr_parts.specs.View.{Under, Grown, env_of}
use Rattle.expr_parts.specs.ViewReady.{IsReady}
use Rattle.decl_rules.specs.Written.{at_once, all_spelled, parts_spelled, tuple_of}
use Rattle.decl_written.specs.ViewWritten.{at_once_of, HasNames, PartsLeft}
use Rattle.decl_written.proofs.AtOnce.{front}
use Rattle.decl_written.proofs.written.+written.Given as goal

abbrev pub decreases-spelled : goal.decreases-spelled
decreases-spelled l = 6 * type_nodes (written_of l.tree.now) + 1

abbrev pub decreases-named : goal.decreases-named
decreases-named l = 6 * argument_nodes (arguments_of l.arguments.now) + 5

abbrev pub decreases-applied : goal.decreases-applied
decreases-applied l = 6 * argument_nodes (arguments_of l.arguments.now) + 4

abbrev pub decreases-given : goal.decreases-given
decreases-given l = 6 * argument_nodes (arguments_of l.arguments.now) + 2

abbrev pub decreases-array : goal.decreases-array
decreases-array l = 6 * type_nodes (written_of l.element.now) + 3

abbrev pub decreases-array_of : goal.decreases-array_of
decreases-array_of l = 6 * type_nodes (written_of l.element.now) + 2

abbrev pub decreases-tuple : goal.decreases-tuple
decreases-tuple l = 6 * field_nodes (fields_of l.fields.now) + 6

abbrev pub decreases-parts : goal.decreases-parts
decreases-parts l = 6 * field_nodes (fields_of l.fields.now) + 5

abbrev pub decreases-group : goal.decreases-group
decreases-group l = 6 * type_nodes (written_of l.field.now.of) + 3

abbrev pub decreases-group_type : goal.decreases-group_type
decreases-group_type l = 6 * type_nodes (written_of l.field.now.of) + 2

abbrev pub invariant-given-loop-argument : goal.invariant-given-loop-argument
invariant-given-loop-argument l = record {
  light : argument_nodes (arguments_of (drop l.argument-index l.arguments)) ≤ argument_nodes (arguments_of l.fn.arguments);
  grown : Grown l.fn.types l.types;
  ready : IsReady l.types l.scope;
  within : AllBelow (length l.types) l.ids.items;
  left : (ts : List Ty) (facts : Facts) → Under l.types ts facts
      → all_spelled at_once (env_of ts facts l.scope) (arguments_of l.fn.arguments)
      ≡ front (map (at_once_of ts) l.ids.items) (all_spelled at_once (env_of ts facts l.scope) (arguments_of (drop l.argument-index l.arguments)));
}

abbrev pub invariant-parts-loop-field : goal.invariant-parts-loop-field
invariant-parts-loop-field l = record {
  light : field_nodes (fields_of (drop l.field-index l.fields)) ≤ field_nodes (fields_of l.fn.fields);
  grown : Grown l.fn.types l.types;
  ready : IsReady l.types l.scope;
  within : AllBelow (length l.types) l.parts.types;
  left : (before : List (List ℕ)) × HasNames l.seen before × ((ts : List Ty) (facts : Facts) → Under l.types ts facts
      → and_then (parts_spelled at_once (env_of ts facts l.scope) [] (fields_of l.fn.fields)) (λ all. Ok (tuple_of all.parts))
      ≡ PartsLeft l.parts.names (types_at ts l.parts.types)
      (parts_spelled at_once (env_of ts facts l.scope) before (fields_of (drop l.field-index l.fields))));
}
