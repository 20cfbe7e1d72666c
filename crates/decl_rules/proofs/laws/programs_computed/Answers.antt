use Rattle.decl_rules.proofs.Once.{programs_computed, reasons_computed}
use Rattle.decl_rules.proofs.laws.programs_computed.Goals as goal

pub returns-clause-programs : goal.returns-clause-programs
returns-clause-programs c = programs_computed (record { nodes = c.typing_computed.ensures.nodes; refusals = c.typing_computed.ensures.refusals })

pub returns-clause-refusals : goal.returns-clause-refusals
returns-clause-refusals c = reasons_computed (record { nodes = c.typing_computed.ensures.nodes; refusals = c.typing_computed.ensures.refusals })
