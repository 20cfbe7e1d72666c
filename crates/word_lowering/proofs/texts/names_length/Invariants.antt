use Rattle.std.proofs.Common.{◌≡◌, ◌+◌, length, drop}
use Rattle.word_lowering.specs.Texts.{all_names, joined_all}
use Rattle.word_lowering.proofs.texts.names_length.Given as goal

-- with what is left, it is all
abbrev pub invariant-loop-id : goal.invariant-loop-id
invariant-loop-id l = l.n + length (joined_all (all_names (drop l.id l.types))) ≡ length (joined_all (all_names l.types))
