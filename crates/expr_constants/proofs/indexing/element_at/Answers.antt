use Rattle.expr_constants.proofs.indexing.element_at.Goals as goal

pub returns-in-Ok-clause-answers : goal.returns-in-Ok-clause-answers
returns-in-Ok-clause-answers c = λ ts facts k u. c.element_of.ensures.answers ts facts k (c.in-Ok.ensures ts facts u)
