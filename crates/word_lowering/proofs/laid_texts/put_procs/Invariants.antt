use Rattle.std.proofs.Common.{ℕ, List, ◌≤◌, length, drop}
use Rattle.word_lowering.specs.LaidTexts.{AreLaid}
use Rattle.word_lowering.specs.Linked.{procs_before}
use Rattle.word_lowering.proofs.laid_texts.put_procs.Given as goal

-- those from there on
abbrev pub invariant-loop-i : goal.invariant-loop-i
invariant-loop-i l =
    (l.i ≤ length l.procs) × ((texts : List (List ℕ)) → AreLaid l.from l.initial.laying texts → AreLaid l.from l.laying (procs_before l.from (drop l.i
    l.procs) texts))

abbrev pub decreases-loop-i : goal.decreases-loop-i
decreases-loop-i l = l.i
