use Rattle.std.proofs.Common.{◌++◌, ◌∷◌, [], ap, ◌∙◌, to_z, of_z, w32, to_z-of_z}
use Rattle.nim_program.specs.declared.expr.Label.TheVariants as label
use Rattle.expr_builds.proofs.Labelling.{with_range}
use Rattle.expr_builds.proofs.label_list.Labels.take_range.Goals as goal

pub invariant_of-self-2 : goal.invariant_of-self-2
invariant_of-self-2 c =
    let was = c.self.inside in
    let low = to_z w32 (of_z w32 c.args.low) in
    let high = to_z w32 (of_z w32 c.args.high) in
    let from = to_z-of_z c.ranges.low in
    let to = to_z-of_z c.ranges.high in
    with_range was.given.items c.push_reserved.new.self.items was.ranges.items c.add_range.new.ranges.items was.texts low high _ c.self.invariant
    (c.push_reserved.ensures.items ∙ ap (λ ls. ls ++ label.Ordinals low high ∷ []) c.in_ok-reserve.ensures.items)
    c.in_ok-add_range.ensures.ascending c.in_ok-add_range.ensures.more cc
