use Rattle.typing_laws.proofs.Reaching.{completed_there}
use Rattle.typing_laws.proofs.laws.completed_there.Goals as goal

pub returns : goal.returns
returns c =
    completed_there c.statements_computed.ensures.statements c.places_numbered.ensures.statements c.places_numbered.ensures.procedures
