use Rattle.std.proofs.Common.{ap₂}
use Rattle.refc_runtime.proofs.heap.heap_runtime.Goals as goal

pub returns : goal.returns
returns c = ap₂ (λ ps bytes. record { procs = ps; statics = bytes }) c.in_ok-procs.ensures c.in_ok-statics.ensures
