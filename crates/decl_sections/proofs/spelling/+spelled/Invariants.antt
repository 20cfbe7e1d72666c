use Rattle.std.proofs.Common.{◌≡◌, ℕ, ◌≤◌, ◌+◌, ◌*◌, List, [], length, drop}
use Rattle.nim_tree.specs.Types.{written_of, arguments_of, fields_of, type_nodes, argument_nodes, field_nodes}
use Rattle.nim_types.specs.Types.{Key, Ty, Facts}
use Rattle.nim_types.specs.Table.{AllBelow}
use Rattle.expr_parts.specs.View.{Under, Grown, env_of}
use Rattle.expr_parts.specs.ViewReady.{IsReady}
use Rattle.decl_rules.specs.Written.{later, all_spelled, parts_spelled}
use Rattle.decl_written.specs.ViewWritten.{HasNames}
use Rattle.decl_types.specs.ViewNodes.{names_env_of}
use Rattle.decl_sections.specs.ViewSpelled.{Further, AddsSound, part_count, all_given, all_parted}
use Rattle.std.specs.Prelude.{Ok}
use Rattle.decl_sections.proofs.Listing.{front_given, given_now, front_parts, parts_now}
use Rattle.decl_sections.proofs.spelling.+spelled.Given as goal

abbrev pub decreases-spelled : goal.decreases-spelled
decreases-spelled l = 6 * type_nodes (written_of l.tree.now) + 1

abbrev pub decreases-named : goal.decreases-named
decreases-named l = 6 * argument_nodes (arguments_of l.arguments.now) + 5

abbrev pub decreases-applied : goal.decreases-applied
decreases-applied l = 6 * argument_nodes (arguments_of l.arguments.now) + 4

abbrev pub decreases-given : goal.decreases-given
decreases-given l = 6 * argument_nodes (arguments_of l.arguments.now) + 2

abbrev pub decreases-array : goal.decreases-array
decreases-array l = 6 * type_nodes (written_of l.element.now) + 3

abbrev pub decreases-array_of : goal.decreases-array_of
decreases-array_of l = 6 * type_nodes (written_of l.element.now) + 2

abbrev pub decreases-tuple : goal.decreases-tuple
decreases-tuple l = 6 * field_nodes (fields_of l.fields.now) + 6

abbrev pub decreases-parts : goal.decreases-parts
decreases-parts l = 6 * field_nodes (fields_of l.fields.now) + 5

abbrev pub invariant-given-loop-argument : goal.invariant-given-loop-argument
invariant-given-loop-argument l = record {
  light : argument_nodes (arguments_of (drop l.argument-index l.arguments)) ≤ argument_nodes (arguments_of l.fn.arguments);
  grown : Grown l.fn.types l.types;
  ready : IsReady l.types l.scope;
  further : Further l.fn.out.items l.out.items;
  within : AllBelow (length l.out.items) l.nodes.items;
  sound : AddsSound {T = Unit {0}} l.fn.out.items l.out.items l.scope l.names (Ok tt);
  left : (ts : List Ty) (facts before : Facts) (keys : List Key) → Under l.types ts facts
      → all_given (all_spelled (later (env_of ts facts l.scope)) (names_env_of ts before keys l.names l.scope) (arguments_of l.fn.arguments))
      ≡ front_given (given_now ts keys l.fn.out.items l.out.items l.nodes.items)
      (all_given (all_spelled (later (env_of ts facts l.scope)) (names_env_of ts before keys l.names l.scope)
      (arguments_of (drop l.argument-index l.arguments))));
}

abbrev pub invariant-parts-loop-field : goal.invariant-parts-loop-field
invariant-parts-loop-field l = record {
  light : field_nodes (fields_of (drop l.field-index l.fields)) ≤ field_nodes (fields_of l.fn.fields);
  grown : Grown l.fn.types l.types;
  ready : IsReady l.types l.scope;
  further : Further l.fn.out.items l.out.items;
  within : AllBelow (length l.out.items) l.parts.types;
  sound : AddsSound {T = Unit {0}} l.fn.out.items l.out.items l.scope l.names (Ok tt);
  count : length l.parts.types + part_count (fields_of (drop l.field-index l.fields)) ≡ part_count (fields_of l.fn.fields);
  left : (seen : List (List ℕ)) × HasNames l.seen seen × ((ts : List Ty) (facts before : Facts) (keys : List Key) → Under l.types ts facts
      → all_parted (parts_spelled (later (env_of ts facts l.scope)) (names_env_of ts before keys l.names l.scope) [] (fields_of l.fn.fields))
      ≡ front_parts (parts_now ts keys l.fn.out.items l.out.items l.parts.names l.parts.types)
      (all_parted (parts_spelled (later (env_of ts facts l.scope)) (names_env_of ts before keys l.names l.scope) seen
      (fields_of (drop l.field-index l.fields)))));
}
