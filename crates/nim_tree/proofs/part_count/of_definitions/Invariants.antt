use Rattle.std.proofs.Common.{◌≡◌, ◌≤◌, ◌-◌, ◌^◌, ◌+◌, min, drop}
use Rattle.std.specs.Prelude.{map}
use Rattle.nim_tree.specs.Lists.{total}
use Rattle.nim_tree.specs.Statements.{definition_nodes, definition_of}
use Rattle.nim_tree.proofs.part_count.of_definitions.Given as goal

-- with what is left it is the whole
abbrev pub invariant-loop-def : goal.invariant-loop-def
invariant-loop-def l = record {
  small : l.all ≤ 2 ^ 32 - 1;
  all : min (l.all + total definition_nodes (map definition_of (drop l.def-index l.defs))) (2 ^ 32 - 1)
      ≡ min (total definition_nodes (map definition_of l.fn.defs)) (2 ^ 32 - 1);
}
