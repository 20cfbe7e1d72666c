use Rattle.std.proofs.Common.{◌≡◌, ◌≤◌, ◌-◌, ◌^◌, ◌+◌, min, drop}
use Rattle.std.specs.Prelude.{map}
use Rattle.nim_tree.specs.Lists.{total}
use Rattle.nim_tree.specs.Statements.{parameter_nodes, parameters_of}
use Rattle.nim_tree.proofs.part_count.of_params.Given as goal

-- with what is left it is the whole
abbrev pub invariant-loop-param : goal.invariant-loop-param
invariant-loop-param l = record {
  small : l.all ≤ 2 ^ 32 - 1;
  all : min (l.all + total parameter_nodes (map parameters_of (drop l.param-index l.params))) (2 ^ 32 - 1)
      ≡ min (total parameter_nodes (map parameters_of l.fn.params)) (2 ^ 32 - 1);
}
