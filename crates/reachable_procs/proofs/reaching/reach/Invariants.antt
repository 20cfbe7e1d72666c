use Rattle.std.proofs.Common.{◌-◌, ◌^◌}
use Rattle.reachable_procs.specs.Search.{Searches}
use Rattle.reachable_procs.proofs.reaching.reach.Given as goal

abbrev pub invariant-loop-next : goal.invariant-loop-next
invariant-loop-next l = Searches l.procs l.next l.reached

abbrev pub decreases-loop-next : goal.decreases-loop-next
decreases-loop-next l = 2 ^ 64 - l.next
