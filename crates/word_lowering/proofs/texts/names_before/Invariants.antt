use Rattle.std.proofs.Common.{◌≡◌, length, take}
use Rattle.word_lowering.specs.Texts.{all_names}
use Rattle.word_lowering.proofs.texts.names_before.Given as goal

-- with what is left, it is all
abbrev pub invariant-loop-id : goal.invariant-loop-id
invariant-loop-id l = l.n ≡ length (all_names (take l.id l.types))
