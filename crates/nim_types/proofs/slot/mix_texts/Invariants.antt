use Rattle.std.proofs.Common.{◌≡◌, drop}
use Rattle.nim_types.specs.Kept.{mixed_texts}
use Rattle.nim_types.proofs.slot.mix_texts.Given as goal

abbrev pub invariant-loop-text : goal.invariant-loop-text
invariant-loop-text l = mixed_texts l.sum (drop l.text-index l.texts) ≡ mixed_texts l.fn.number l.texts
