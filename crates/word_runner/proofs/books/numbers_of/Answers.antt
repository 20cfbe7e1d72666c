use Rattle.std.proofs.Common.{sym, subst, arith, length}
use Rattle.word_runner.proofs.BookRows.{NumbersFrom, no_numbers}
use Rattle.word_runner.proofs.books.numbers_of.Goals as goal

pub loop-i-init : goal.loop-i-init
loop-i-init c =
    let procs = c.args.procs.now in (
      omega arith,
      subst (NumbersFrom (length procs) procs) (sym c.new-numbers.ensures.items) (no_numbers procs (length procs) (omega arith)),
    )
