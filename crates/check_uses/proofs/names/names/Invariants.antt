use Rattle.std.proofs.Common.{◌-◌, ◌^◌}
use Rattle.check_uses.specs.Known.{all_procs}
use Rattle.check_uses.specs.Search.{Searches}
use Rattle.check_uses.proofs.names.names.Given as goal

abbrev pub invariant-loop-next : goal.invariant-loop-next
invariant-loop-next l = Searches (all_procs l.known) l.global l.proc l.next l.reached

abbrev pub decreases-loop-next : goal.decreases-loop-next
decreases-loop-next l = 2 ^ 64 - l.next
