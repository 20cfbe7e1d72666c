use Rattle.std.proofs.Common.{◌≡◌, ◌-◌, ◌^◌, min, drop}
use Rattle.std.specs.Prelude.{max, map}
use Rattle.nim_tree.specs.Lists.{highest}
use Rattle.nim_tree.specs.Statements.{definition_term_levels, definition_of}
use Rattle.nim_tree.proofs.part_depth.in_definitions.Given as goal

-- what is left has the levels that were not seen
abbrev pub invariant-loop-def : goal.invariant-loop-def
invariant-loop-def l = max l.most (min (highest definition_term_levels (map definition_of (drop l.def-index l.defs))) (2 ^ 32 - 1))
    ≡ min (highest definition_term_levels (map definition_of l.fn.defs)) (2 ^ 32 - 1)
