use Rattle.destructor_injection.proofs.Injected.{shown, shown_within}
use Rattle.destructor_injection.proofs.laws.owned_codes.Goals as goal

pub returns-clause-lines : goal.returns-clause-lines
returns-clause-lines c = shown

pub returns-clause-units : goal.returns-clause-units
returns-clause-units c = shown_within
