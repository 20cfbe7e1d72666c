use Rattle.std.proofs.Common.{◌≡◌, ◌+◌, ◌++◌, ℕ, List, length, drop}
use Rattle.word_lowering.specs.Texts.{all_names, joined_all, starts_from}
use Rattle.word_lowering.proofs.texts.push_ends.Given as goal

-- with what is left, it is all
abbrev pub invariant-loop-id : goal.invariant-loop-id
invariant-loop-id l =
    ((k : List ℕ) → l.bytes ++ starts_from l.n (all_names (drop l.id l.types)) k ≡ l.initial.bytes ++ starts_from 0 (all_names l.types) k)
    × (l.n + length (joined_all (all_names (drop l.id l.types))) ≡ length (joined_all (all_names l.types)))
