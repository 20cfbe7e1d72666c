use Rattle.parse_exprs.proofs.Laws.{expr_agrees}
use Rattle.parse_exprs.proofs.parse.exprs_run.Goals as goal

pub returns : goal.returns
returns c = λ x layout most. expr_agrees x layout most
