use Rattle.expr_calls.proofs.calls_by_name.chosen.Goals as goal

pub returns-clause-means : goal.returns-clause-means
returns-clause-means c = c.choose.ensures.means

pub returns-clause-fits : goal.returns-clause-fits
returns-clause-fits c = c.choose.ensures.fits
