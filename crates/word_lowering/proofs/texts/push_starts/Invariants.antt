use Rattle.std.proofs.Common.{◌≡◌, ◌+◌, ◌++◌, List, ℕ, drop, length}
use Rattle.word_lowering.specs.Texts.{starts_from, joined_all}
use Rattle.word_lowering.proofs.texts.push_starts.Given as goal

-- with what is left, it is all
abbrev pub invariant-loop-name : goal.invariant-loop-name
invariant-loop-name l =
    ((k : List ℕ) → l.bytes ++ starts_from l.at (drop l.name-index l.names) k ≡ l.initial.bytes ++ starts_from l.n l.names k)
    × (l.at + length (joined_all (drop l.name-index l.names)) ≡ l.n + length (joined_all l.names))
