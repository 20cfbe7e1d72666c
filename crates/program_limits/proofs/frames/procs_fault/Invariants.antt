use Rattle.std.proofs.Common.{◌≡◌, drop, map}
use Rattle.nim_program.specs.View.{declared_of, proc_of}
use Rattle.nim_meaning.specs.LeftOut.{earlier}
use Rattle.program_limits.specs.Known.{known_types, known_facts}
use Rattle.program_limits.specs.Frames.{procs_fault}
use Rattle.program_limits.proofs.frames.procs_fault.Given as goal

-- with those that are left it is the earliest of all
abbrev pub invariant-loop-proc : goal.invariant-loop-proc
invariant-loop-proc l =
    earlier l.found (procs_fault (known_facts l.around.known.now) (map (declared_of (known_types l.around.known.now)) l.around.globals.now)
    (map (proc_of (known_types l.around.known.now)) (drop l.proc-index l.procs.items))) ≡
    procs_fault (known_facts l.around.known.now) (map (declared_of (known_types l.around.known.now)) l.around.globals.now)
    (map (proc_of (known_types l.around.known.now)) l.procs.items)
