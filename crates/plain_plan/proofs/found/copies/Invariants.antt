use Rattle.std.proofs.Common.{◌≡◌, ◌++◌}
use Rattle.std.specs.Prelude.{map}
use Rattle.plain_plan.specs.Plain.{AreWords, copied}
use Rattle.plain_plan.proofs.found.copies.Given as goal

abbrev pub invariant-loop-site : goal.invariant-loop-site
invariant-loop-site l = record {
  copies : l.acts ++ map copied l.site-iterator ≡ map copied l.sites.keys;
  words : AreWords l.acts;
}
