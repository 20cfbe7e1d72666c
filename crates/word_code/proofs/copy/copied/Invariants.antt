use Rattle.std.proofs.Common.{◌≡◌, ◌++◌, drop}
use Rattle.word_code.proofs.copy.copied.Given as goal

-- with the items that are left, they are all
abbrev pub invariant-loop-item : goal.invariant-loop-item
invariant-loop-item g l = l.copy ++ drop l.item-index l.items ≡ l.items
