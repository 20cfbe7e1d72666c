use Rattle.parse_exprs.proofs.Laws.{callee_agrees}
use Rattle.parse_exprs.proofs.parse.callees_run.Goals as goal

pub returns : goal.returns
returns c = λ x spaces. callee_agrees x spaces
