use Rattle.std.proofs.Common.{◌≡◌, drop, map}
use Rattle.nim_meaning.specs.LeftOut.{left_out_in_procs, earlier}
use Rattle.nim_program.specs.View.{proc_of}
use Rattle.program_limits.specs.Known.{known_types, known_facts}
use Rattle.program_limits.proofs.plain.of_procs.Given as goal

-- with those that are left it is the earliest of all
abbrev pub invariant-loop-proc : goal.invariant-loop-proc
invariant-loop-proc l =
    earlier l.found (left_out_in_procs (known_facts l.known) (map (proc_of (known_types l.known)) (drop l.proc-index l.procs.items))) ≡
    left_out_in_procs (known_facts l.known) (map (proc_of (known_types l.known)) l.procs.items)
