use Rattle.std.proofs.Common.{◌≡◌, ◌++◌, length}
use Rattle.word_lowering.specs.Layouts.{AreCounted}
use Rattle.word_lowering.specs.Lowered.{word_procs}
use Rattle.word_lowering.specs.Scope.{around_of}
use Rattle.word_lowering.specs.Texts.{texts_in}
use Rattle.word_lowering.proofs.lowering.push_procs.Given as goal

-- with what is left, it is all; and what is left takes numbers of 32 bits
abbrev pub invariant-loop-proc : goal.invariant-loop-proc
invariant-loop-proc l =
    (l.all ++ word_procs (around_of l.x) l.index l.owns l.left ≡ l.initial.all ++ word_procs (around_of l.x) 0 l.x.layouts.now l.procs)
    × (l.behind ≡ length (texts_in l.left)) × AreCounted l.owns

abbrev pub decreases-loop-proc : goal.decreases-loop-proc
decreases-loop-proc l = length l.left
