use Rattle.std.proofs.Common.{◌+◌, List, [], ◌∷◌, drop, sym, ap}
use Rattle.std.specs.Prelude.{map}
use Rattle.nim_program.specs.declared.program.Param.{Param}
use Rattle.nim_program.specs.View.{declared_of, param_of}
use Rattle.flat_code.specs.declared.place.PlaceKind.{PlaceKind}
use Rattle.flattening.specs.Places.{kind_of_param, of_declared, param_places}
use Rattle.flattening.specs.Views.{types_of, facts_of, modes_of}
use Rattle.flattening.proofs.ExprPuts.{drop_next}
use Rattle.flattening.proofs.PlacePuts.{listed_as, listed_more}
use Rattle.flattening.proofs.declared_places.put_params.Goals as goal

pub loop-param-preserved : goal.loop-param-preserved
loop-param-preserved c =
    let ts = types_of c.args.around.now in
    let facts = facts_of c.args.around.now in
    let modes = modes_of c.args.around.now in
    let sinks = c.args.around.now.sinks.now in
    let loop = c.loop-param in
    let x = c.param-item.result in
    let all = λ (ys : List Param). param_places ts facts modes sinks (map (param_of ts) ys) in
    let one = λ (kind : PlaceKind). of_declared ts facts modes kind (declared_of ts x.place) ∷ [] in
    let next = drop_next c.args.params.now loop.param-index x c.loop-param-test.true c.param-item.is in
    listed_more _ loop.places _ _ (all (drop loop.param-index c.args.params.now)) (one (kind_of_param sinks (param_of ts x)))
    (all (drop (loop.param-index + 1) c.args.params.now)) loop.invariant
    (listed_as (one c.kind_of_param.result) (one (kind_of_param sinks (param_of ts x))) (ap one (sym (c.kind_of_param.ensures ts))) c.put_declared.ensures)
    (ap all next)
