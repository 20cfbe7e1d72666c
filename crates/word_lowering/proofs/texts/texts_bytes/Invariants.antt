use Rattle.std.proofs.Common.{◌≡◌, ◌≤◌, drop, length}
use Rattle.word_lowering.specs.Texts.{texts_in}
use Rattle.word_lowering.proofs.texts.texts_bytes.Given as goal

-- with what is left, it is all
abbrev pub invariant-loop-i : goal.invariant-loop-i
invariant-loop-i l = (l.n ≡ length (texts_in (drop l.i l.procs))) × (l.i ≤ length l.procs)

abbrev pub decreases-loop-i : goal.decreases-loop-i
decreases-loop-i l = l.i
