use Rattle.std.proofs.Common.{◌≤◌, length}
use Rattle.nim_types.proofs.Settling.{Sweeps}
use Rattle.nim_types.proofs.storage.sweep.Given as goal

abbrev pub invariant-loop-i : goal.invariant-loop-i
invariant-loop-i l = record { within : l.i ≤ length l.defs; sweeps : Sweeps l.defs l.fn.known l.known l.found l.i }

abbrev pub decreases-loop-i : goal.decreases-loop-i
decreases-loop-i l = l.i
