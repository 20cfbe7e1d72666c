use Rattle.std.proofs.Common.{◌≡◌, ◌++◌, drop}
use Rattle.word_lowering.specs.Texts.{joined_all}
use Rattle.word_lowering.proofs.texts.push_members.Given as goal

-- with what is left, it is all
abbrev pub invariant-loop-name : goal.invariant-loop-name
invariant-loop-name l = l.bytes ++ joined_all (drop l.name-index l.names) ≡ l.initial.bytes ++ joined_all l.names
