use Rattle.std.proofs.Common.{◌≡◌, ℕ, ◌+◌, List, length, take, drop}
use Rattle.std.specs.Prelude.{map}
use Rattle.nim_types.specs.Types.{Ty, Key, Facts}
use Rattle.nim_types.specs.Table.{type_at, AllBelow}
use Rattle.expr_parts.specs.View.{Under, Grown}
use Rattle.decl_types.specs.ViewMarks.{is_unknown, node_marks, RenamedWhere}
use Rattle.decl_types.specs.ViewNodes.{node_types}
use Rattle.decl_types.specs.ViewKnown.{KnownAs, Untouched, NodesIn, KnownBelow}
use Rattle.decl_types.proofs.known.types_of.Given as goal

abbrev pub invariant-loop-node : goal.invariant-loop-node
invariant-loop-node l = record {
  known : KnownBelow (length l.types) l.known;
  grown : Grown l.fn.types l.types;
  within : AllBelow (length l.types) l.ids.items;
  count : length l.ids.items + length (drop l.node-index l.nodes) ≡ length l.nodes;
  means : (n m : ℕ) → NodesIn n m l.nodes → (ts : List Ty) (facts : Facts) → Under l.types ts facts
      → (keys : List Key) (by : Key → Ty) → KnownAs ts keys l.known by → Untouched ts n by
      → RenamedWhere (node_marks (map is_unknown l.known) (take l.node-index l.nodes)) (map (type_at ts) l.ids.items) by
      (node_types ts keys (take l.node-index l.nodes));
}
