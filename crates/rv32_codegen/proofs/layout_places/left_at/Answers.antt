use Rattle.std.proofs.Common.{ap, sym, ◌∙◌}
use Rattle.std.specs.Option.{option_copied}
use Rattle.std.specs.HashMap.{get}
use Rattle.rv32_codegen.specs.Places.{same_key}
use Rattle.rv32_codegen.proofs.LayoutPlaces.{label_left, label_missing}
use Rattle.rv32_codegen.proofs.layout_places.left_at.Goals as goal

pub returns-in-Some : goal.returns-in-Some
returns-in-Some c = λ far code are sizes.
    c.size_at.ensures ∙
    label_left far code c.args.labels.now c.args.sizes.now c.args.name c.in-Some.left.now are sizes
    (ap (get same_key c.args.labels.now) (sym c.key_of.ensures) ∙ sym c.get.ensures.value ∙ ap option_copied c.in-Some.is)

pub returns-in-None : goal.returns-in-None
returns-in-None c = λ far code are sizes. label_missing far code c.args.labels.now c.args.name are
    (ap (get same_key c.args.labels.now) (sym c.key_of.ensures) ∙ sym c.get.ensures.value ∙ ap option_copied c.in-None.is)
