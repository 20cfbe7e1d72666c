use Rattle.std.proofs.Common.{◌≡◌, ◌+◌, ◌≤◌, suc, drop, map}
use Rattle.nim_types.specs.Table.{types_in, facts_in}
use Rattle.nim_program.specs.View.{declared_of}
use Rattle.nim_program.specs.Sizes.{globals_size}
use Rattle.nim_program.specs.declared.text_sizes.TheConstants.{MOST_DATA}
use Rattle.nim_program.specs.Folds.{capped}
use Rattle.program_limits.proofs.data.globals_size.Given as goal

abbrev pub invariant-loop-global : goal.invariant-loop-global
invariant-loop-global l =
    (capped MOST_DATA (l.sum + globals_size (facts_in l.types) (map (declared_of (types_in l.types)) (drop l.global-index l.globals))) ≡
    capped MOST_DATA (globals_size (facts_in l.types) (map (declared_of (types_in l.types)) l.globals)))
    × (l.sum ≤ suc MOST_DATA)
