use Rattle.std.proofs.Common.{◌≤◌, length}
use Rattle.reachable_procs.specs.Search.{LeadsFrom}
use Rattle.reachable_procs.proofs.reaching.index_of.Given as goal

-- the procedures from there on
abbrev pub invariant-loop-i : goal.invariant-loop-i
invariant-loop-i l = record { within : l.i ≤ length l.procs; leads : LeadsFrom l.index l.i l.procs }

abbrev pub decreases-loop-i : goal.decreases-loop-i
decreases-loop-i l = l.i
