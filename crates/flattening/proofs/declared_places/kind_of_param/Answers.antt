use Rattle.std.proofs.Common.{ap, ◌∙◌}
use Rattle.nim_program.specs.View.{param_of}
use Rattle.nim_meaning.specs.Shapes.{mode_of}
use Rattle.flat_code.specs.declared.place.PlaceKind.TheVariants as K
use Rattle.flattening.specs.Places.{taken_as}
use Rattle.flattening.proofs.declared_places.kind_of_param.Goals as goal

pub returns : goal.returns
returns c ts =
    ap K.Param (c.taken_as.ensures
    ∙ ap (taken_as c.args.param.now.mode) (c.mode_of-planned.ensures ts ∙ ap (λ s. mode_of s (param_of ts c.args.param.now)) c.as_slice.ensures))
