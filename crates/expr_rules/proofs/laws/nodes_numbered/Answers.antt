use Rattle.expr_rules.proofs.Numbered.{numbered}
use Rattle.expr_rules.proofs.laws.nodes_numbered.Goals as goal

pub returns : goal.returns
returns c = numbered
