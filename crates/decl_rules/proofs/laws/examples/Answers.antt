use Rattle.std.proofs.Common.{refl}
use Rattle.decl_rules.proofs.laws.examples.Goals as goal

pub returns-clause-statements : goal.returns-clause-statements
returns-clause-statements c = refl

pub returns-clause-loops : goal.returns-clause-loops
returns-clause-loops c = refl

pub returns-clause-cases : goal.returns-clause-cases
returns-clause-cases c = refl

pub returns-clause-variables : goal.returns-clause-variables
returns-clause-variables c = refl

pub returns-clause-constants : goal.returns-clause-constants
returns-clause-constants c = refl

pub returns-clause-scopes : goal.returns-clause-scopes
returns-clause-scopes c = refl

pub returns-clause-types : goal.returns-clause-types
returns-clause-types c = refl

pub returns-clause-procedures : goal.returns-clause-procedures
returns-clause-procedures c = refl

pub returns-clause-distinct : goal.returns-clause-distinct
returns-clause-distinct c = refl

pub returns-clause-globals : goal.returns-clause-globals
returns-clause-globals c = refl

pub returns-clause-left_out : goal.returns-clause-left_out
returns-clause-left_out c = refl

pub returns-clause-order : goal.returns-clause-order
returns-clause-order c = refl

pub returns-clause-programs : goal.returns-clause-programs
returns-clause-programs c = refl

pub returns-clause-edges : goal.returns-clause-edges
returns-clause-edges c = refl
