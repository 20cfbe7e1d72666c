use Rattle.std.proofs.Common.{List, Option, drop}
use Rattle.std.specs.Prelude.{map}
use Rattle.nim_program.specs.View.{param_of}
use Rattle.flat_code.specs.declared.place.FlatPlace.{FlatPlace}
use Rattle.flattening.specs.Places.{param_places}
use Rattle.flattening.specs.Views.{types_of, facts_of, modes_of}
use Rattle.flattening.specs.PlaceViews.{in_front}
use Rattle.nim_program.specs.declared.program.Param.{Param}
use Rattle.flattening.specs.Written.{IsPut}
use Rattle.flattening.proofs.declared_places.put_params.Given as goal

abbrev pub invariant-loop-param : goal.invariant-loop-param
invariant-loop-param l =
    let ts = types_of l.around in
    let facts = facts_of l.around in
    let modes = modes_of l.around in
    let all = λ (params : List Param). in_front (param_places ts facts modes l.around.sinks.now (map (param_of ts) params)) in
    (new : Option (List FlatPlace)) → IsPut l.places new (all (drop l.param-index l.params)) → IsPut l.fn.places new (all l.params)
