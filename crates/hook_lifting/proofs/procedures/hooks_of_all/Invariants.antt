use Rattle.std.proofs.Common.{◌≡◌, ◌++◌, drop, length}
use Rattle.hook_lifting.specs.Lifted.{each_from, of_entry, lifted}
use Rattle.hook_lifting.proofs.procedures.hooks_of_all.Given as goal

abbrev pub invariant-loop-ty : goal.invariant-loop-ty
invariant-loop-ty l = (l.of ++ each_from (of_entry l.types) (drop l.ty l.types) l.ty ≡ lifted l.types) × (l.ty-end ≡ length l.types)
