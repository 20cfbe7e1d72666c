use Rattle.parse_exprs.proofs.Deciding.{exprs_decided, callees_decided}
use Rattle.parse_exprs.proofs.total.expr_or_fault.Goals as goal

pub returns-clause-exprs : goal.returns-clause-exprs
returns-clause-exprs c = λ x layout most ts. exprs_decided x layout most ts

pub returns-clause-callees : goal.returns-clause-callees
returns-clause-callees c = λ x spaces ts. callees_decided x spaces ts
