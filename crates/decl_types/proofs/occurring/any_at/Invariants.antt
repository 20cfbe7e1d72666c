use Rattle.std.proofs.Common.{◌≡◌, drop}
use Rattle.decl_types.specs.ViewMarks.{any_at}
use Rattle.decl_types.proofs.occurring.any_at.Given as goal

abbrev pub invariant-loop-number : goal.invariant-loop-number
invariant-loop-number l = any_at l.marks (drop l.number-index l.numbers) ≡ any_at l.marks l.numbers
