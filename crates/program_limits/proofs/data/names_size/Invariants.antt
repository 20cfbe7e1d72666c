use Rattle.std.proofs.Common.{◌≡◌, ◌+◌, ◌≤◌, suc, drop, length}
use Rattle.nim_program.specs.declared.text_sizes.TheConstants.{MOST_DATA}
use Rattle.nim_program.specs.Folds.{capped}
use Rattle.program_limits.specs.Data.{table_names}
use Rattle.program_limits.proofs.data.names_size.Given as goal

abbrev pub invariant-loop-ty : goal.invariant-loop-ty
invariant-loop-ty l =
    (capped MOST_DATA (l.sum + table_names (drop l.ty l.types)) ≡ capped MOST_DATA (table_names l.types)) × (l.sum ≤ suc MOST_DATA)
    × (l.ty-end ≡ length l.types)
