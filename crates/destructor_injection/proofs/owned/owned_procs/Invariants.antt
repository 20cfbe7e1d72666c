use Rattle.std.proofs.Common.{◌≡◌, ◌++◌, drop, map}
use Rattle.nim_plan.specs.Order.{IsInOrder}
use Rattle.flat_code.specs.Codes.{under, each_line}
use Rattle.destructor_injection.proofs.owned.owned_procs.Given as goal

-- with the procedures that are left, they are all
abbrev pub invariant-loop-proc : goal.invariant-loop-proc
invariant-loop-proc l =
    IsInOrder l.plan → l.owned ++ map (each_line (under l.plan)) (drop l.proc-index l.procs) ≡ map (each_line (under l.plan)) l.procs
