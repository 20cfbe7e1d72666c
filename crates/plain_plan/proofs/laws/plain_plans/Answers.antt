use Rattle.std.proofs.Common.{[]}
use Rattle.plain_plan.proofs.Making.{is_plain}
use Rattle.plain_plan.proofs.Programs.{only_plain, plain_without_sites}
use Rattle.plain_plan.proofs.laws.plain_plans.Goals as goal

pub returns : goal.returns
returns c = record {
  is = is_plain c.one_more.ensures.sites c.program_sites.ensures.trees;
  only = only_plain;
  without_hooks = λ program plan none. plain_without_sites program plan (λ site. c.program_sites.ensures.none program [] site none);
}
