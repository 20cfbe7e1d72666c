use Rattle.std.proofs.Common.{◌≡◌, ◌++◌, drop}
use Rattle.decl_types.proofs.known.copies_of.Given as goal

abbrev pub invariant-loop-text : goal.invariant-loop-text
invariant-loop-text l = l.copies ++ drop l.text-index l.texts ≡ l.texts
