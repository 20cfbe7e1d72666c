use Rattle.std.proofs.Common.{◌≡◌, drop}
use Rattle.std.specs.Prelude.{None}
use Rattle.elf32.specs.Reading.{rises, skip_before}
use Rattle.elf32.proofs.order.skips_rise.Given as goal

-- what is left decides
abbrev pub invariant-loop-skip : goal.invariant-loop-skip
invariant-loop-skip l = rises skip_before l.last (drop l.skip-index l.skips) ≡ rises skip_before None l.skips
