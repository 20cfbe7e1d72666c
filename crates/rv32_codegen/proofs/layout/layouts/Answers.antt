use Rattle.rv32_codegen.specs.Layout.{too_far}
use Rattle.rv32_codegen.proofs.LayoutSizes.{size_less, size_most, reach_all}
use Rattle.rv32_codegen.proofs.LayoutImages.{no_table}
use Rattle.rv32_codegen.proofs.layout.layouts.Goals as goal

pub returns : goal.returns
returns c = record {
  shorter = λ code. size_less (too_far code) code;
  bounded = λ code. size_most (too_far code) code;
  unhooked = no_table;
  reached = reach_all;
}
