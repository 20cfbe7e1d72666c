use Rattle.std.proofs.Common.{List, ◌≤◌, length, drop, map}
use Rattle.nim_types.specs.Types.{Ty}
use Rattle.nim_program.specs.View.{proc_of}
use Rattle.nim_program.specs.Folds.{in_procs}
use Rattle.program_limits.specs.Meeting.{Met, Found, before, body_before}
use Rattle.program_limits.proofs.block_texts.of_procs.Given as goal

abbrev pub invariant-loop-i : goal.invariant-loop-i
invariant-loop-i l =
    (l.i ≤ length l.procs.items) × ((ts : List Ty) (met : Found) → Met l.initial.texts met →
    Met l.texts (in_procs before body_before (map (proc_of ts) (drop l.i l.procs.items)) met))

abbrev pub decreases-loop-i : goal.decreases-loop-i
decreases-loop-i l = l.i
