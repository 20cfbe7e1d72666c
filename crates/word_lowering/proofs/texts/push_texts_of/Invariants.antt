use Rattle.std.proofs.Common.{◌≡◌, ◌≤◌, ◌++◌, drop, length, map}
use Rattle.flat_code.specs.Codes.{block_plain}
use Rattle.word_lowering.specs.Texts.{texts_of}
use Rattle.word_lowering.proofs.texts.push_texts_of.Given as goal

-- with what is left, it is all
abbrev pub invariant-loop-i : goal.invariant-loop-i
invariant-loop-i l = (l.bytes ≡ l.initial.bytes ++ texts_of (map block_plain (drop l.i l.lines))) × (l.i ≤ length l.lines)

abbrev pub decreases-loop-i : goal.decreases-loop-i
decreases-loop-i l = l.i
