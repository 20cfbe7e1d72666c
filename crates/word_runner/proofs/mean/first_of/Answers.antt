use Rattle.std.proofs.Common.{sym, ap, ◌∙◌}
use Rattle.word_code.specs.Words.{first_of}
use Rattle.word_runner.specs.Books.{from_position}
use Rattle.word_runner.proofs.BookRows.{first_drop}
use Rattle.word_runner.proofs.mean.first_of.Goals as goal

pub returns-in-Some : goal.returns-in-Some
returns-in-Some c =
    λ books.
    first_drop c.args.procs.now c.in-Some.i
    ∙ sym (ap first_of (books.numbers 0 ∙ ap (from_position c.args.procs.now) (sym c.number.ensures ∙ c.in-Some.is)))
