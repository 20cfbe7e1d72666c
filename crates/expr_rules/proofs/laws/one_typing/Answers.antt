use Rattle.expr_rules.proofs.Once.{each_term, one_node, one_refusal, not_both}
use Rattle.expr_rules.proofs.laws.one_typing.Goals as goal

pub returns-clause-each : goal.returns-clause-each
returns-clause-each c = each_term

pub returns-clause-node : goal.returns-clause-node
returns-clause-node c = one_node

pub returns-clause-refusal : goal.returns-clause-refusal
returns-clause-refusal c = one_refusal

pub returns-clause-apart : goal.returns-clause-apart
returns-clause-apart c = not_both
