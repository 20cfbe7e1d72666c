use Rattle.std.proofs.Common.{sym, subst, arith, length}
use Rattle.word_runner.proofs.BookRows.{LabelsFrom, no_labels}
use Rattle.word_runner.proofs.books.labels_of.Goals as goal

pub loop-i-init : goal.loop-i-init
loop-i-init c =
    let lines = c.args.lines.now in (
      omega arith,
      subst (LabelsFrom (length lines) lines) (sym c.new-labels.ensures.items) (no_labels lines (length lines) (omega arith)),
    )
