use Rattle.std.proofs.Common.{◌≡◌, drop}
use Rattle.nim_types.specs.Kept.{mixed_all}
use Rattle.nim_types.proofs.slot.mix_text.Given as goal

abbrev pub invariant-loop-b : goal.invariant-loop-b
invariant-loop-b l = mixed_all l.sum (drop l.b-index l.text) ≡ mixed_all l.fn.number l.text
