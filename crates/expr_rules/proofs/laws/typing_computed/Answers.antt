use Rattle.expr_rules.proofs.Once.{nodes_computed, refusals_computed}
use Rattle.expr_rules.proofs.laws.typing_computed.Goals as goal

pub returns-clause-nodes : goal.returns-clause-nodes
returns-clause-nodes c = nodes_computed

pub returns-clause-refusals : goal.returns-clause-refusals
returns-clause-refusals c = refusals_computed
