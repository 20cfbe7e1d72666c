use Rattle.decl_rules.proofs.Naming.{names_found}
use Rattle.decl_rules.proofs.laws.names_found.Goals as goal

pub returns : goal.returns
returns c = names_found
