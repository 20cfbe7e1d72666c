use Rattle.std.proofs.Common.{◌≡◌, ℕ, ◌+◌, ◌++◌, List, length, drop}
use Rattle.std.specs.Prelude.{map}
use Rattle.nim_types.specs.Types.{Ty}
use Rattle.nim_types.specs.Table.{type_at, AllBelow}
use Rattle.decl_types.proofs.known.numbers_at.Given as goal

abbrev pub invariant-loop-node : goal.invariant-loop-node
invariant-loop-node l = record {
  left : AllBelow (length l.ids) (drop l.node-index l.nodes);
  within : (n : ℕ) → AllBelow n l.ids → AllBelow n l.all;
  count : length l.all + length (drop l.node-index l.nodes) ≡ length l.nodes;
  each : (ts : List Ty) → map (type_at ts) l.all ++ map (type_at (map (type_at ts) l.ids)) (drop l.node-index l.nodes)
      ≡ map (type_at (map (type_at ts) l.ids)) l.nodes;
}
