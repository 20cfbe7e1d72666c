use Rattle.std.proofs.Common.{◌≡◌, ◌++◌, length}
use Rattle.word_lowering.specs.Layouts.{layouts, AreCounted}
use Rattle.word_lowering.proofs.layouts.layouts.Given as goal

-- with what is left, it is all; and what is left takes numbers of 32 bits
abbrev pub invariant-loop-proc : goal.invariant-loop-proc
invariant-loop-proc l = record {
  all : l.all ++ layouts l.types l.datum l.left ≡ layouts l.types l.datum l.procs;
  counted : AreCounted (layouts l.types l.datum l.left);
}

abbrev pub decreases-loop-proc : goal.decreases-loop-proc
decreases-loop-proc l = length l.left
