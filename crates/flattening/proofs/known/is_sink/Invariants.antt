use Rattle.std.proofs.Common.{◌≡◌, drop}
use Rattle.nim_meaning.specs.Shapes.{is_sink}
use Rattle.flattening.proofs.known.is_sink.Given as goal

abbrev pub invariant-loop-sink : goal.invariant-loop-sink
invariant-loop-sink l = is_sink (drop l.sink-index l.sinks) l.place ≡ is_sink l.sinks l.place
