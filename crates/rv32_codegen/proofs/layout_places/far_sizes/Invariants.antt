use Rattle.std.proofs.Common.{◌≡◌, ◌-◌, ◌*◌, ◌≤◌, length, drop}
use Rattle.rv32_codegen.specs.Layout.{all_far, size}
use Rattle.rv32_codegen.specs.Places.{AreSizes}
use Rattle.rv32_codegen.proofs.layout_places.far_sizes.Given as goal

-- the sizes of the lines from there on
abbrev pub invariant-loop-i : goal.invariant-loop-i
invariant-loop-i l = record {
  within : l.i ≤ length l.code;
  left : l.left ≡ size all_far (drop l.i l.code);
  most : l.left ≤ 8 * (length l.code - l.i);
  sizes : AreSizes all_far (drop l.i l.code) l.sizes.items;
}

abbrev pub decreases-loop-i : goal.decreases-loop-i
decreases-loop-i l = l.i
