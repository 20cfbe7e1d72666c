use Rattle.std.proofs.Common.{◌≡◌, ◌++◌, drop}
use Rattle.std.specs.Prelude.{map, option_map}
use Rattle.nim_program.specs.View.{body_of, param_of}
use Rattle.nim_program.specs.declared.program.Proc.{Proc}
use Rattle.flattening.specs.Views.{types_of, facts_of, modes_of}
use Rattle.flattening.specs.PlaceViews.{marked, code_proc}
use Rattle.flattening.proofs.program.each_proc.Given as goal

abbrev pub invariant-loop-proc : goal.invariant-loop-proc
invariant-loop-proc l =
    let a = l.around in
    let ts = types_of a in
    let one = λ (proc : Proc). code_proc ts (facts_of a) (modes_of a) a.sinks.now (marked l.globals.items) proc.hook (map (param_of ts) proc.params)
    (option_map (body_of ts) proc.body) in
    l.all ++ map one (drop l.proc-index l.procs.items) ≡ map one l.procs.items
