use Rattle.std.proofs.Common.{ℕ, List, Option, drop}
use Rattle.std.specs.Prelude.{map}
use Rattle.nim_program.specs.declared.program.Proc.{Proc}
use Rattle.nim_program.specs.View.{proc_of}
use Rattle.plain_plan.specs.Adding.{Adds}
use Rattle.nim_meaning.specs.TreeSites.{proc_sites}
use Rattle.plain_plan.specs.Views.{types_of, facts_of, modes_of}
use Rattle.plain_plan.proofs.plain.add_procs.Given as goal

abbrev pub invariant-loop-proc : goal.invariant-loop-proc
invariant-loop-proc l =
    let a = l.around in
    let all = λ (procs : List Proc). proc_sites (facts_of a) (modes_of a) (map (proc_of (types_of a)) procs) in
    (end : Option (List ℕ)) → Adds l.found end (all (drop l.proc-index l.procs.items)) → Adds l.fn.found end (all l.procs.items)
