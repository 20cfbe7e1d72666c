use Rattle.std.proofs.Common.{◌≡◌, ◌++◌, drop}
use Rattle.nim_tree.specs.Terms.{parts_of}
use Rattle.expr_rules.specs.Constructions.{part_names}
use Rattle.expr_builds.proofs.tuples.part_names.Given as goal

abbrev pub invariant-loop-part : goal.invariant-loop-part
invariant-loop-part l = l.names ++ part_names (parts_of (drop l.part-index l.parts)) ≡ part_names (parts_of l.parts)
