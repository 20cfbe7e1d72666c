use Rattle.std.proofs.Common.{◌≡◌, ◌++◌, drop}
use Rattle.word_lowering.specs.Aliases.{values_in}
use Rattle.word_lowering.proofs.homed.push_values.Given as goal

-- with what is left, it is all
abbrev pub invariant-loop-x : goal.invariant-loop-x
invariant-loop-x l = l.found ++ values_in (drop l.x-index l.from) ≡ l.initial.found ++ values_in l.from
