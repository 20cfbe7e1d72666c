use Rattle.std.proofs.Common.{◌≡◌, drop}
use Rattle.std.specs.Prelude.{ltb, None}
use Rattle.elf32.specs.Reading.{rises}
use Rattle.elf32.proofs.order.sinks_rise.Given as goal

-- what is left decides
abbrev pub invariant-loop-sink : goal.invariant-loop-sink
invariant-loop-sink l = rises ltb l.last (drop l.sink-index l.sinks) ≡ rises ltb None l.sinks
