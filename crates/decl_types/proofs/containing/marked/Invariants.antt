use Rattle.std.proofs.Common.{◌≡◌, ◌++◌, drop}
use Rattle.decl_types.proofs.containing.marked.Given as goal

abbrev pub invariant-loop-mark : goal.invariant-loop-mark
invariant-loop-mark l = l.all.items ++ drop l.mark-index l.marks ≡ l.marks
