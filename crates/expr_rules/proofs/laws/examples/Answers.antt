use Rattle.std.proofs.Common.{refl}
use Rattle.expr_rules.proofs.laws.examples.Goals as goal

pub returns-clause-literals : goal.returns-clause-literals
returns-clause-literals c = refl

pub returns-clause-names : goal.returns-clause-names
returns-clause-names c = refl

pub returns-clause-operators : goal.returns-clause-operators
returns-clause-operators c = refl

pub returns-clause-calls : goal.returns-clause-calls
returns-clause-calls c = refl

pub returns-clause-built_in : goal.returns-clause-built_in
returns-clause-built_in c = refl

pub returns-clause-paths : goal.returns-clause-paths
returns-clause-paths c = refl

pub returns-clause-constructions : goal.returns-clause-constructions
returns-clause-constructions c = refl

pub returns-clause-choices : goal.returns-clause-choices
returns-clause-choices c = refl

pub returns-clause-hidden : goal.returns-clause-hidden
returns-clause-hidden c = refl

pub returns-clause-nodes : goal.returns-clause-nodes
returns-clause-nodes c = refl

pub returns-clause-operands : goal.returns-clause-operands
returns-clause-operands c = refl

pub returns-clause-edges : goal.returns-clause-edges
returns-clause-edges c = refl

pub returns-clause-constants : goal.returns-clause-constants
returns-clause-constants c = refl

pub returns-clause-indexes : goal.returns-clause-indexes
returns-clause-indexes c = refl
