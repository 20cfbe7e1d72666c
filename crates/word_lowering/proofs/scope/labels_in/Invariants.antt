use Rattle.std.proofs.Common.{◌≡◌, ◌+◌, drop, map}
use Rattle.flat_code.specs.Codes.{block_plain}
use Rattle.word_lowering.specs.LineCode.{labels_in}
use Rattle.word_lowering.proofs.scope.labels_in.Given as goal

-- with what is left, it is all
abbrev pub invariant-loop-line : goal.invariant-loop-line
invariant-loop-line l = l.n + labels_in (map block_plain (drop l.line-index l.lines)) ≡ labels_in (map block_plain l.lines)
