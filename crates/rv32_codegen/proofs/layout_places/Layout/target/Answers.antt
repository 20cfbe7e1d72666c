use Rattle.std.proofs.Common.{ap, sym, ◌∙◌}
use Rattle.std.specs.Option.{option_copied}
use Rattle.std.specs.HashMap.{get}
use Rattle.rv32_codegen.specs.Places.{same_key}
use Rattle.rv32_codegen.proofs.LayoutPlaces.{target_missing, target_found}
use Rattle.rv32_codegen.proofs.layout_places.Layout.target.Goals as goal

pub returns-in-Some-clause-is : goal.returns-in-Some-clause-is
returns-in-Some-clause-is c =
    target_found c.args.code.now c.args.self.now c.requires.layout c.args.name c.in-Some.left.now c.address.result
    (ap (get same_key c.args.self.now.labels) (sym c.key_of.ensures) ∙ sym c.get.ensures.value ∙ ap option_copied c.in-Some.is) c.address.ensures.is

pub returns-in-None-clause-is : goal.returns-in-None-clause-is
returns-in-None-clause-is c =
    target_missing c.args.code.now c.args.self.now c.requires.layout c.args.name
    (ap (get same_key c.args.self.now.labels) (sym c.key_of.ensures) ∙ sym c.get.ensures.value ∙ ap option_copied c.in-None.is)
