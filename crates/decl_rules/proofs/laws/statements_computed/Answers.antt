use Rattle.decl_rules.proofs.Once.{statements_computed, refusals_computed}
use Rattle.decl_rules.proofs.laws.statements_computed.Goals as goal

pub returns-clause-statements : goal.returns-clause-statements
returns-clause-statements c = statements_computed (record { nodes = c.typing_computed.ensures.nodes; refusals = c.typing_computed.ensures.refusals })

pub returns-clause-refusals : goal.returns-clause-refusals
returns-clause-refusals c = refusals_computed (record { nodes = c.typing_computed.ensures.nodes; refusals = c.typing_computed.ensures.refusals })
