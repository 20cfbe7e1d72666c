use Rattle.std.proofs.Common.{◌≡◌, ◌++◌, drop}
use Rattle.word_lowering.specs.Texts.{all_names, joined_all}
use Rattle.word_lowering.proofs.texts.push_names.Given as goal

-- with the names that are left, they are all
abbrev pub invariant-loop-id : goal.invariant-loop-id
invariant-loop-id l = l.bytes ++ joined_all (all_names (drop l.id l.types)) ≡ l.initial.bytes ++ joined_all (all_names l.types)
