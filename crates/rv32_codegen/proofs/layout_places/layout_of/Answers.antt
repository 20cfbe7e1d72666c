use Rattle.rv32_codegen.specs.Layout.{too_far}
use Rattle.rv32_codegen.proofs.LayoutPlaces.{total_is}
use Rattle.rv32_codegen.proofs.layout_places.layout_of.Goals as goal

pub returns : goal.returns
returns c = record {
  labels = c.in_ok-labels.ensures;
  far = c.in_ok-far.ensures;
  sizes = c.in_ok-sizes.ensures;
  total = total_is (too_far c.args.code.now) c.args.code.now c.in_ok-sizes.sizes.items _ c.in_ok-sizes.ensures c.index-total.ensures;
}
