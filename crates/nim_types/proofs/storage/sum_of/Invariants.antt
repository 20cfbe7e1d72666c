use Rattle.std.proofs.Common.{◌≡◌, drop}
use Rattle.std.specs.Prelude.{false}
use Rattle.nim_types.specs.Kept.{sum_in, stored_as}
use Rattle.nim_types.proofs.storage.sum_of.Given as goal

abbrev pub invariant-loop-id : goal.invariant-loop-id
invariant-loop-id l = sum_in l.known l.sum (drop l.id-index l.ids) ≡ sum_in l.known (stored_as 0 false) l.ids
