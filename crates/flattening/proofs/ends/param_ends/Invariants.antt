use Rattle.std.proofs.Common.{◌≡◌, ◌++◌, drop}
use Rattle.std.specs.Prelude.{map}
use Rattle.nim_program.specs.View.{param_of}
use Rattle.flattening.specs.Views.{types_of, facts_of, params_own}
use Rattle.flattening.proofs.ends.param_ends.Given as goal

abbrev pub invariant-loop-param : goal.invariant-loop-param
invariant-loop-param l =
    let a = l.around in
    let ts = types_of a in
    let own = params_own ts (facts_of a) in
    l.ends ++ own (map (param_of ts) (drop l.param-index l.params)) ≡ own (map (param_of ts) l.params)
