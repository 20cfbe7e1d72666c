use Rattle.std.proofs.Common.{◌≡◌, ◌++◌, drop, map}
use Rattle.flat_code.specs.Codes.{block_plain}
use Rattle.word_lowering.specs.Aliases.{handed_in}
use Rattle.word_lowering.proofs.addresses.handed_in.Given as goal

-- with what is left, it is all
abbrev pub invariant-loop-line : goal.invariant-loop-line
invariant-loop-line l = l.found ++ handed_in (map block_plain (drop l.line-index l.lines)) ≡ handed_in (map block_plain l.lines)
