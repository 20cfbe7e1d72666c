use Rattle.parse_exprs.proofs.Deciding.{exprs_end, callees_end}
use Rattle.parse_exprs.proofs.total.exprs_end.Goals as goal

pub returns-clause-exprs : goal.returns-clause-exprs
returns-clause-exprs c = λ x layout most. exprs_end x layout most

pub returns-clause-callees : goal.returns-clause-callees
returns-clause-callees c = λ x spaces. callees_end x spaces
