use Rattle.std.proofs.Common.{◌≡◌, ◌+◌, ◌-◌, ◌<◌, length, drop, refl, subst, arith}
use Rattle.rv32_codegen.specs.Places.{AreLabels}
use Rattle.rv32_codegen.proofs.LayoutPlaces.{first_labels, labels_turn}
use Rattle.rv32_codegen.proofs.layout_places.labels_of.Goals as goal

pub loop-i-init : goal.loop-i-init
loop-i-init c = record { within = omega arith; labels = first_labels c.args.code.now c.new-labels.result c.new-labels.ensures.empty }

pub loop-i-preserved : goal.loop-i-preserved
loop-i-preserved c =
    let code = c.args.code.now in
    let k = c.loop-i.i in
    let i = k - 1 in
    let next : k ≡ i + 1 = omega (arith, c.loop-i-test.true) in
    let lt : i < length code = omega (arith, next, c.loop-i.invariant.within) in
    let before = subst (λ n. AreLabels (drop n code) c.loop-i.labels) next c.loop-i.invariant.labels in
    record {
      within = omega (arith, lt);
      labels = labels_turn code i _ _ c.loop-i.labels c.put_label.new.labels lt refl before c.in_ok-put_label.ensures;
    }
