use Rattle.expr_calls.proofs.dollars.own_dollar.Goals as goal

pub returns : goal.returns
returns c = c.first_fit.ensures
