use Rattle.std.proofs.Common.{◌≡◌, drop}
use Rattle.word_lowering.specs.Aliases.{is_among}
use Rattle.word_lowering.proofs.addresses.is_among.Given as goal

-- with what is left, it is all
abbrev pub invariant-loop-other : goal.invariant-loop-other
invariant-loop-other l = is_among l.number (drop l.other-index l.numbers) ≡ is_among l.number l.numbers
