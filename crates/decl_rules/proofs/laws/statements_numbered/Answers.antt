use Rattle.decl_rules.proofs.Nodes.{nodes_numbered, body_numbered}
use Rattle.decl_rules.proofs.laws.statements_numbered.Goals as goal

pub returns-clause-statements : goal.returns-clause-statements
returns-clause-statements c = nodes_numbered c.nodes_numbered.ensures

pub returns-clause-bodies : goal.returns-clause-bodies
returns-clause-bodies c = body_numbered c.nodes_numbered.ensures
