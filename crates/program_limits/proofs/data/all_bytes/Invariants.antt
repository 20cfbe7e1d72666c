use Rattle.std.proofs.Common.{◌≡◌, ◌+◌, ◌≤◌, suc, drop}
use Rattle.nim_program.specs.TextSizes.{all_bytes}
use Rattle.nim_program.specs.declared.text_sizes.TheConstants.{MOST_DATA}
use Rattle.nim_program.specs.Folds.{capped}
use Rattle.program_limits.proofs.data.all_bytes.Given as goal

abbrev pub invariant-loop-name : goal.invariant-loop-name
invariant-loop-name l = (capped MOST_DATA (l.sum + all_bytes (drop l.name-index l.names)) ≡ capped MOST_DATA (all_bytes l.names)) × (l.sum ≤ suc MOST_DATA)
