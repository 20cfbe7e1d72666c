use Rattle.std.proofs.Common.{◌≡◌, List, drop, length}
use Rattle.std.specs.Prelude.{map}
use Rattle.nim_types.specs.Types.{Ty, Facts}
use Rattle.nim_types.specs.Table.{type_at}
use Rattle.expr_parts.specs.View.{Under, env_of, found_of}
use Rattle.expr_builds.specs.ViewBuilt.{FoundsWithin, fields_found}
use Rattle.expr_builds.proofs.Planning.{behind_found}
use Rattle.expr_builds.proofs.plans.fields_named.Given as goal

abbrev pub invariant-loop-name : goal.invariant-loop-name
invariant-loop-name l = record {
  within : FoundsWithin (length l.types) l.chosen.items;
  left : (ts : List Ty) (facts : Facts) → Under l.types ts facts
      → behind_found (map (found_of ts) l.chosen.items) (fields_found (env_of ts facts l.scope) l.at (type_at ts l.ty) (drop l.name-index l.names))
      ≡ fields_found (env_of ts facts l.scope) l.at (type_at ts l.ty) l.names;
}
