use Rattle.std.proofs.Common.{◌≡◌, ◌++◌, drop}
use Rattle.word_lowering.specs.Aliases.{places_in}
use Rattle.word_lowering.proofs.addresses.push_places.Given as goal

-- with what is left, it is all
abbrev pub invariant-loop-x : goal.invariant-loop-x
invariant-loop-x l = l.found ++ places_in (drop l.x-index l.from) ≡ l.initial.found ++ places_in l.from
