use Rattle.std.proofs.Common.{◌≡◌, List, drop}
use Rattle.std.specs.Prelude.{map}
use Rattle.nim_types.specs.Types.{Ty, Facts}
use Rattle.nim_types.specs.Table.{type_at}
use Rattle.expr_parts.specs.View.{Under}
use Rattle.decl_types.specs.ViewSized.{nodes_sized}
use Rattle.decl_types.proofs.sizing.check_nodes.Given as goal

abbrev pub invariant-loop-node : goal.invariant-loop-node
invariant-loop-node l = record {
  number : l.number ≡ l.node-index;
  left : (ts : List Ty) (facts : Facts) → Under l.types ts facts
      → nodes_sized facts l.nodes (map (type_at ts) l.ids)
      ≡ nodes_sized facts (drop l.node-index l.nodes) (drop l.node-index (map (type_at ts) l.ids));
}
