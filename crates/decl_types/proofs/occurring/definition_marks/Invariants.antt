use Rattle.std.proofs.Common.{◌≡◌, ◌++◌, drop}
use Rattle.std.specs.Prelude.{map}
use Rattle.decl_types.specs.ViewMarks.{definition_mark}
use Rattle.decl_types.proofs.occurring.definition_marks.Given as goal

abbrev pub invariant-loop-definition : goal.invariant-loop-definition
invariant-loop-definition l = l.all.items ++ map (definition_mark l.marks) (drop l.definition-index l.read) ≡ map (definition_mark l.marks) l.read
