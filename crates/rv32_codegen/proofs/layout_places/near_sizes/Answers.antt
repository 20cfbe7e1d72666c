use Rattle.std.proofs.Common.{◌≡◌, ◌+◌, ◌-◌, ◌<◌, [], ◌∷◌, ◌++◌, length, take, drop, refl, ap, subst, sym, ◌∙◌, arith}
use Rattle.rv32_codegen.specs.Layout.{size, too_far}
use Rattle.rv32_codegen.specs.Places.{AreSizes}
use Rattle.rv32_codegen.proofs.LayoutPlaces.{within_at, left_of, no_size, size_turn, sizes_first, sizes_turn}
use Rattle.rv32_codegen.proofs.layout_places.near_sizes.Goals as goal

pub loop-i-init : goal.loop-i-init
loop-i-init c =
    let code = c.args.code.now in
    let items = c.in_ok-push.ensures.items ∙ ap (λ l. l ++ 0 ∷ []) c.new-sizes.ensures.items in
    record {
      within = omega arith;
      left = no_size (too_far code) code;
      most = omega arith;
      sizes = subst (AreSizes (too_far code) (drop (length code) code)) (sym items) (sizes_first (too_far code) code);
    }

pub loop-i-preserved : goal.loop-i-preserved
loop-i-preserved c =
    let code = c.args.code.now in
    let k = c.loop-i.i in
    let i = k - 1 in
    let next : k ≡ i + 1 = omega (arith, c.loop-i-test.true) in
    let lt : i < length code = omega (arith, next, c.loop-i.invariant.within) in
    let before = subst (λ n. c.loop-i.left ≡ size (too_far code) (drop n code)) next c.loop-i.invariant.left in
    let sized = subst (λ n. AreSizes (too_far code) (drop n code) c.loop-i.sizes.items) next c.loop-i.invariant.sizes in
    let rest = drop (i + 1) code in
    let within = within_at code i _ _ lt refl in
    let is_far = c.is_too_far-is_far.ensures code (take i code) rest within (left_of code i lt) c.requires.labels c.requires.far in
    let left =
    size_turn (too_far code) code i _ _ c.loop-i.left c.line_size-left.result c.is_too_far-is_far.result lt refl before is_far
    c.line_size-left.ensures.is in
    let sizes = sizes_turn (too_far code) code i c.loop-i.sizes.items (c.loop-i.left + c.line_size-left.result) lt sized left in
    record {
      within = omega (arith, lt);
      left = left;
      most = omega (arith, next, lt, c.loop-i.invariant.most, c.line_size-left.ensures.most);
      sizes = subst (AreSizes (too_far code) (drop i code)) (sym c.in_ok-push-2.ensures.items) sizes;
    }
