use Rattle.parse_exprs.proofs.Laws.{expr_agrees}
use Rattle.parse_exprs.proofs.parse.deep_exprs.Goals as goal

pub returns : goal.returns
returns c = λ x layout most t ts rest d. (expr_agrees x layout most).high t ts rest d
