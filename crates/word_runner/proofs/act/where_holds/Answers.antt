use Rattle.std.proofs.Common.{sym, ◌∙◌}
use Rattle.word_runner.proofs.ActRows.{both_there, none_of, tested}
use Rattle.word_runner.proofs.act.where_holds.Goals as goal

pub returns-in-None-clause-did : goal.returns-in-None-clause-did
returns-in-None-clause-did c =
    λ x. none_of _ _ _ (rw c.in-None.is at c.both.ensures)

pub returns-then-holds-clause-did : goal.returns-then-holds-clause-did
returns-then-holds-clause-did c =
    λ x. tested _ _ _ _ (sym c.if-holds.true ∙ c.holds.ensures) ∙ both_there _ _ _ _ _ (rw c.in-Some.is at c.both.ensures)

pub returns-else-holds-clause-did : goal.returns-else-holds-clause-did
returns-else-holds-clause-did c =
    λ x. tested _ _ _ _ (sym c.if-holds.false ∙ c.holds.ensures) ∙ both_there _ _ _ _ _ (rw c.in-Some.is at c.both.ensures)
