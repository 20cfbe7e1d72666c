use Rattle.std.proofs.Common.{◌≡◌, ℕ, List, Option, drop}
use Rattle.nim_program.specs.Program.{Args}
use Rattle.nim_program.specs.View.{operands_of, choices_of, picks_of}
use Rattle.flat_code.specs.declared.place.FlatPlace.{FlatPlace}
use Rattle.flattening.specs.Places.{operand_places, part_places}
use Rattle.flattening.specs.Views.{types_of, facts_of, modes_of, uses_of, act_of}
use Rattle.flattening.specs.PlaceViews.{in_front}
use Rattle.nim_program.specs.declared.expr.Operand.{Operand}
use Rattle.nim_program.specs.declared.expr.Choice.{Choice}
use Rattle.nim_program.specs.declared.expr.Pick.{Pick}
use Rattle.flattening.specs.Written.{IsPut}
use Rattle.flattening.proofs.expr_places.+temporaries.Given as goal

abbrev pub invariant-list_operands-loop-operand : goal.invariant-list_operands-loop-operand
invariant-list_operands-loop-operand l =
    let ts = types_of l.around in
    let facts = facts_of l.around in
    let modes = modes_of l.around in
    let all = λ (operands : List Operand) (i u : ℕ).
    in_front (operand_places ts facts modes (act_of l.uses) (operands_of ts operands) (uses_of modes l.uses) i u) in
    (l.position ≡ l.operand-index) ×
    ((new : Option (List FlatPlace)) → IsPut l.places new (all (drop l.operand-index l.operands.items) l.position l.u) →
    IsPut l.fn.places new (all l.operands.items 0 l.t))

abbrev pub invariant-list_choices-loop-branch : goal.invariant-list_choices-loop-branch
invariant-list_choices-loop-branch l =
    let ts = types_of l.around in
    let facts = facts_of l.around in
    let modes = modes_of l.around in
    let all = λ (branches : List Choice) (last : Args) (u : ℕ). in_front (part_places ts facts modes (choices_of ts branches last) u) in
    (last : Args) (new : Option (List FlatPlace)) → IsPut l.places new (all (drop l.branch-index l.branches.items) last l.u) →
    IsPut l.fn.places new (all l.branches.items last l.t)

abbrev pub invariant-list_picks-loop-branch : goal.invariant-list_picks-loop-branch
invariant-list_picks-loop-branch l =
    let ts = types_of l.around in
    let facts = facts_of l.around in
    let modes = modes_of l.around in
    let all = λ (branches : List Pick) (last : Args) (u : ℕ). in_front (part_places ts facts modes (picks_of ts branches last) u) in
    (last : Args) (new : Option (List FlatPlace)) → IsPut l.places new (all (drop l.branch-index l.branches.items) last l.u) →
    IsPut l.fn.places new (all l.branches.items last l.t)
