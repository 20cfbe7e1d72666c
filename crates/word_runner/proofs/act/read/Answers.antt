use Rattle.std.proofs.Common.{sym, ◌∙◌}
use Rattle.word_runner.proofs.ActRows.{both_there, none_of, tested}
use Rattle.word_runner.proofs.act.read.Goals as goal

pub returns-in-None-clause-did : goal.returns-in-None-clause-did
returns-in-None-clause-did c =
    λ input d. none_of _ _ _ (rw c.in-None.is at c.both.ensures)

pub returns-then-may_fill-clause-did : goal.returns-then-may_fill-clause-did
returns-then-may_fill-clause-did c =
    λ input d. tested _ _ _ _ (sym c.if-may_fill.true ∙ c.may_fill.ensures) ∙ both_there _ _ _ _ _ (rw c.in-Some.is at c.both.ensures)

pub returns-else-may_fill-clause-did : goal.returns-else-may_fill-clause-did
returns-else-may_fill-clause-did c =
    λ input d. tested _ _ _ _ (sym c.if-may_fill.false ∙ c.may_fill.ensures) ∙ both_there _ _ _ _ _ (rw c.in-Some.is at c.both.ensures)
