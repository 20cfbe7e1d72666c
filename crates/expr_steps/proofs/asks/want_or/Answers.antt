use Rattle.expr_steps.proofs.asks.want_or.Goals as goal

pub returns-in-Nothing-clause-within : goal.returns-in-Nothing-clause-within
returns-in-Nothing-clause-within c = λ n h b. c.inner_by.ensures.within n b
