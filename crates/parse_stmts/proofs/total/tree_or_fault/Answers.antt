use Rattle.parse_stmts.proofs.Deciding.{module_decided}
use Rattle.parse_stmts.proofs.total.tree_or_fault.Goals as goal

pub returns : goal.returns
returns c = module_decided
