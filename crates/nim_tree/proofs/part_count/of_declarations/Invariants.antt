use Rattle.std.proofs.Common.{◌≡◌, ◌≤◌, ◌-◌, ◌^◌, ◌+◌, min, drop}
use Rattle.std.specs.Prelude.{map}
use Rattle.nim_tree.specs.Lists.{total}
use Rattle.nim_tree.specs.Types.{declaration_nodes, declaration_of}
use Rattle.nim_tree.proofs.part_count.of_declarations.Given as goal

-- with what is left it is the whole
abbrev pub invariant-loop-def : goal.invariant-loop-def
invariant-loop-def l = record {
  small : l.all ≤ 2 ^ 32 - 1;
  all : min (l.all + total declaration_nodes (map declaration_of (drop l.def-index l.defs))) (2 ^ 32 - 1)
      ≡ min (total declaration_nodes (map declaration_of l.fn.defs)) (2 ^ 32 - 1);
}
