use Rattle.std.proofs.Common.{◌≡◌, ◌++◌, drop}
use Rattle.reachable_procs.specs.Reachable.{kept}
use Rattle.reachable_procs.proofs.reaching.kept_of.Given as goal

-- with those of the procedures that are left, they are all
abbrev pub invariant-loop-proc : goal.invariant-loop-proc
invariant-loop-proc l = l.left ++ kept l.reached (drop l.proc-index l.procs) ≡ kept l.reached l.procs
