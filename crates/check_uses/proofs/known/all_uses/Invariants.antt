use Rattle.std.proofs.Common.{◌≡◌, ◌++◌, drop, map}
use Rattle.check_uses.specs.Uses.{seen, in_procedure}
use Rattle.check_uses.proofs.known.all_uses.Given as goal

abbrev pub invariant-loop-proc : goal.invariant-loop-proc
invariant-loop-proc l = map seen l.all.items ++ map in_procedure (drop l.proc-index l.procs.items) ≡ map in_procedure l.procs.items
