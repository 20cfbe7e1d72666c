use Rattle.decl_rules.proofs.Places.{places_numbered, procedure_numbered}
use Rattle.decl_rules.proofs.laws.places_numbered.Goals as goal

pub returns-clause-statements : goal.returns-clause-statements
returns-clause-statements c = places_numbered

pub returns-clause-procedures : goal.returns-clause-procedures
returns-clause-procedures c = procedure_numbered
