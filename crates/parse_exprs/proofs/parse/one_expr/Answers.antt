use Rattle.parse_exprs.proofs.Laws.{expr_once}
use Rattle.parse_exprs.proofs.parse.one_expr.Goals as goal

pub returns : goal.returns
returns c = λ x layout t u ts r s d e. expr_once d e
