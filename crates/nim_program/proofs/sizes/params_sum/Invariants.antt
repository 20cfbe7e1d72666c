use Rattle.std.proofs.Common.{◌≡◌, ◌≤◌, length, drop, map}
use Rattle.nim_types.specs.Table.{types_in, facts_in}
use Rattle.nim_program.specs.View.{param_of}
use Rattle.nim_program.specs.Folds.{capped}
use Rattle.nim_program.specs.Sizes.{params_sum}
use Rattle.nim_program.specs.declared.sizes.TheConstants.{MOST_BYTES}
use Rattle.nim_program.proofs.sizes.params_sum.Given as goal

abbrev pub invariant-loop-i : goal.invariant-loop-i
invariant-loop-i l =
    (l.i ≤ length l.params) × (l.all ≡ capped MOST_BYTES (params_sum (facts_in l.types) (map (param_of (types_in l.types)) (drop l.i l.params))))

abbrev pub decreases-loop-i : goal.decreases-loop-i
decreases-loop-i l = l.i
