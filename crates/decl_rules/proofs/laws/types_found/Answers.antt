use Rattle.decl_rules.proofs.Parts.{containment_found, known_found}
use Rattle.decl_rules.proofs.laws.types_found.Goals as goal

pub returns-clause-containment : goal.returns-clause-containment
returns-clause-containment c = containment_found

pub returns-clause-known : goal.returns-clause-known
returns-clause-known c = known_found
