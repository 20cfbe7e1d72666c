use Rattle.parse_exprs.proofs.Laws.{callee_once}
use Rattle.parse_exprs.proofs.parse.one_callee.Goals as goal

pub returns : goal.returns
returns c = λ x spaces t u ts r s d e. callee_once d e
