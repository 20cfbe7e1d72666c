use Rattle.std.proofs.Common.{take}
use Rattle.word_runner.specs.Books.{AreAllLabels}
use Rattle.word_runner.proofs.books.all_labels_of.Given as goal

abbrev pub invariant-loop-proc : goal.invariant-loop-proc
invariant-loop-proc l = AreAllLabels (take l.proc-index l.procs) l.labels.items
