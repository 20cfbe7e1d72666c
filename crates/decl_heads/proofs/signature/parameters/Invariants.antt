use Rattle.std.proofs.Common.{drop}
use Rattle.std.specs.Prelude.{map}
use Rattle.nim_tree.specs.Statements.{parameters_of}
use Rattle.decl_heads.proofs.Grouping.{GroupsLeft}
use Rattle.decl_heads.proofs.signature.parameters.Given as goal

abbrev pub invariant-loop-group : goal.invariant-loop-group
invariant-loop-group l =
    GroupsLeft l.fn.state l.state l.all l.has_result (map parameters_of (drop l.group-index l.groups)) (map parameters_of l.groups)
