use Rattle.std.proofs.Common.{◌≡◌, ◌≤◌, drop, map, length}
use Rattle.flat_code.specs.Codes.{block_plain}
use Rattle.word_lowering.specs.Texts.{texts_of}
use Rattle.word_lowering.proofs.texts.text_bytes.Given as goal

-- with what is left, it is all
abbrev pub invariant-loop-i : goal.invariant-loop-i
invariant-loop-i l = (l.n ≡ length (texts_of (map block_plain (drop l.i l.lines)))) × (l.i ≤ length l.lines)

abbrev pub decreases-loop-i : goal.decreases-loop-i
decreases-loop-i l = l.i
