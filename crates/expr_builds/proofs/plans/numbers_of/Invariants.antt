use Rattle.std.proofs.Common.{◌≡◌, ◌++◌, drop}
use Rattle.std.specs.Prelude.{map}
use Rattle.expr_builds.proofs.plans.numbers_of.Given as goal

abbrev pub invariant-loop-found : goal.invariant-loop-found
invariant-loop-found l = l.numbers ++ map (λ f. f.number) (drop l.found-index l.chosen) ≡ map (λ f. f.number) l.chosen
