use Rattle.std.proofs.Common.{◌≡◌, drop}
use Rattle.nim_types.specs.Kept.{mixed_all}
use Rattle.nim_types.proofs.slot.mix_ids.Given as goal

abbrev pub invariant-loop-id : goal.invariant-loop-id
invariant-loop-id l = mixed_all l.sum (drop l.id-index l.ids) ≡ mixed_all l.fn.number l.ids
