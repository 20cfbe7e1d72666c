use Rattle.std.proofs.Common.{◌≡◌, drop}
use Rattle.reachable_procs.specs.Search.{with_called}
use Rattle.reachable_procs.proofs.reaching.add_all_called.Given as goal

-- with those that the lines that are left call
abbrev pub invariant-loop-line : goal.invariant-loop-line
invariant-loop-line l = with_called (drop l.line-index l.lines) l.reached ≡ with_called l.lines l.initial.reached
