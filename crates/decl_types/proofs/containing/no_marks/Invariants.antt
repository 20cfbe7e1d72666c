use Rattle.std.proofs.Common.{◌≡◌, ◌++◌, drop}
use Rattle.std.specs.Prelude.{map, false}
use Rattle.decl_types.proofs.containing.no_marks.Given as goal

abbrev pub invariant-loop-definition : goal.invariant-loop-definition
invariant-loop-definition l = l.all.items ++ map (λ _. false) (drop l._definition-index l.read) ≡ map (λ _. false) l.read
