use Rattle.std.proofs.Common.{◌≡◌, ◌++◌, drop, map}
use Rattle.flat_code.specs.Codes.{block_plain}
use Rattle.word_lowering.specs.Aliases.{addressed_in}
use Rattle.word_lowering.proofs.addresses.push_addressed.Given as goal

-- with what is left, it is all
abbrev pub invariant-loop-line : goal.invariant-loop-line
invariant-loop-line l =
    l.found ++ addressed_in l.handed (map block_plain (drop l.line-index l.lines)) ≡ l.initial.found ++ addressed_in l.handed (map block_plain l.lines)
