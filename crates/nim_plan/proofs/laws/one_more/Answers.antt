use Rattle.std.specs.Ordering.{nat_cmp}
use Rattle.std.proofs.lemmas.Cmp.{nat_cmp_total}
use Rattle.std.proofs.lemmas.Map.Lookups.{exact_unsigned}
use Rattle.nim_plan.specs.Order.{skip_order}
use Rattle.nim_plan.proofs.OneMore.{has_one_more}
use Rattle.nim_plan.proofs.Orders.{skips_total, skips_exact}
use Rattle.nim_plan.proofs.laws.one_more.Goals as goal

pub returns : goal.returns
returns c = record {
  sites = λ sites site h. has_one_more nat_cmp nat_cmp_total exact_unsigned sites site h;
  skips = λ skips skip h. has_one_more skip_order skips_total skips_exact skips skip h;
}
