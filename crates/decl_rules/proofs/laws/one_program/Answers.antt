use Rattle.decl_rules.proofs.Once.{each_program, one_program, one_reason, never_both}
use Rattle.decl_rules.proofs.laws.one_program.Goals as goal

pub returns-clause-each : goal.returns-clause-each
returns-clause-each c = each_program (record { nodes = c.typing_computed.ensures.nodes; refusals = c.typing_computed.ensures.refusals })

pub returns-clause-program : goal.returns-clause-program
returns-clause-program c = one_program (record { nodes = c.typing_computed.ensures.nodes; refusals = c.typing_computed.ensures.refusals })

pub returns-clause-refusal : goal.returns-clause-refusal
returns-clause-refusal c = one_reason (record { nodes = c.typing_computed.ensures.nodes; refusals = c.typing_computed.ensures.refusals })

pub returns-clause-apart : goal.returns-clause-apart
returns-clause-apart c = never_both (record { nodes = c.typing_computed.ensures.nodes; refusals = c.typing_computed.ensures.refusals })
