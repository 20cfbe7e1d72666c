use Rattle.std.proofs.Common.{◌≡◌, ℕ, take, false}
use Rattle.std.specs.Prelude.{nat_eq, map}
use Rattle.std.specs.HashSet.{contains}
use Rattle.expr_builds.proofs.Twice.{among, twice}
use Rattle.expr_builds.proofs.plans.is_twice.Given as goal

abbrev pub invariant-loop-found : goal.invariant-loop-found
invariant-loop-found l = record {
  seen : (q : ℕ) → contains nat_eq l.seen q ≡ among nat_eq q (map (λ f. f.number) (take l.found-index l.chosen));
  once : twice nat_eq (map (λ f. f.number) (take l.found-index l.chosen)) ≡ false;
}
