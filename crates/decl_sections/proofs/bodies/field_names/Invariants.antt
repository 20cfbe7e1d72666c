use Rattle.std.proofs.Common.{◌≡◌, ◌++◌, drop}
use Rattle.nim_tree.specs.Types.{fields_of}
use Rattle.decl_sections.specs.ViewBodies.{all_field_names}
use Rattle.decl_sections.proofs.bodies.field_names.Given as goal

abbrev pub invariant-loop-field : goal.invariant-loop-field
invariant-loop-field l = l.names ++ all_field_names (fields_of (drop l.field-index l.fields)) ≡ all_field_names (fields_of l.fields)
