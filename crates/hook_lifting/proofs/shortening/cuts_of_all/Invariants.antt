use Rattle.std.proofs.Common.{◌≡◌, ◌++◌, drop, length}
use Rattle.hook_lifting.specs.Lifted.{each_from, cut_entry, cuts}
use Rattle.hook_lifting.proofs.shortening.cuts_of_all.Given as goal

abbrev pub invariant-loop-ty : goal.invariant-loop-ty
invariant-loop-ty l = (l.all ++ each_from (cut_entry l.types) (drop l.ty l.types) l.ty ≡ cuts l.types) × (l.ty-end ≡ length l.types)
