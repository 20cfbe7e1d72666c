use Rattle.std.proofs.Common.{◌≡◌, ◌++◌, drop}
use Rattle.std.specs.Prelude.{map}
use Rattle.decl_sections.specs.ViewBodies.{field_name}
use Rattle.decl_sections.proofs.bodies.add_fields.Given as goal

abbrev pub invariant-loop-field : goal.invariant-loop-field
invariant-loop-field l = l.names ++ map field_name (drop l.field-index l.declared) ≡ l.fn.names ++ map field_name l.declared
