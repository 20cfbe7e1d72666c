use Rattle.std.proofs.Common.{◌≡◌, ◌+◌, drop, length}
use Rattle.word_lowering.specs.Texts.{joined_all}
use Rattle.word_lowering.proofs.texts.name_bytes.Given as goal

-- with what is left, it is all
abbrev pub invariant-loop-name : goal.invariant-loop-name
invariant-loop-name l = l.n + length (joined_all (drop l.name-index l.names)) ≡ l.initial.n + length (joined_all l.names)
