use Rattle.std.proofs.Common.{◌≡◌, ◌++◌, drop, map}
use Rattle.flat_code.specs.Codes.{block_plain}
use Rattle.word_lowering.specs.Aliases.{homed}
use Rattle.word_lowering.proofs.homed.homed.Given as goal

-- with what is left, it is all
abbrev pub invariant-loop-line : goal.invariant-loop-line
invariant-loop-line l = l.found ++ homed (map block_plain (drop l.line-index l.lines)) ≡ homed (map block_plain l.lines)
