use Rattle.std.proofs.Common.{◌≡◌}
use Rattle.decl_types.specs.ViewContained.{contained}
use Rattle.decl_types.proofs.containing.containers.Given as goal

abbrev pub invariant-loop-definition : goal.invariant-loop-definition
invariant-loop-definition l = l.marks.items ≡ contained l._definition-index l.read l.number
