use Rattle.std.proofs.Common.{◌≡◌, ◌++◌, drop}
use Rattle.std.specs.Prelude.{map}
use Rattle.expr_builds.proofs.tuples.types_of.Given as goal

abbrev pub invariant-loop-value : goal.invariant-loop-value
invariant-loop-value l = l.types ++ map (λ v. v.ty) (drop l.value-index l.values) ≡ map (λ v. v.ty) l.values
