use Rattle.decl_rules.proofs.Once.{each_statement, one_stated, one_refusal, not_both}
use Rattle.decl_rules.proofs.laws.one_statement.Goals as goal

pub returns-clause-each : goal.returns-clause-each
returns-clause-each c = each_statement (record { nodes = c.typing_computed.ensures.nodes; refusals = c.typing_computed.ensures.refusals })

pub returns-clause-typed : goal.returns-clause-typed
returns-clause-typed c = one_stated (record { nodes = c.typing_computed.ensures.nodes; refusals = c.typing_computed.ensures.refusals })

pub returns-clause-refusal : goal.returns-clause-refusal
returns-clause-refusal c = one_refusal (record { nodes = c.typing_computed.ensures.nodes; refusals = c.typing_computed.ensures.refusals })

pub returns-clause-apart : goal.returns-clause-apart
returns-clause-apart c = not_both (record { nodes = c.typing_computed.ensures.nodes; refusals = c.typing_computed.ensures.refusals })
