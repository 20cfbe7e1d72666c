use Rattle.typing_laws.proofs.Numbered.{body_numbered}
use Rattle.typing_laws.proofs.laws.bodies_numbered.Goals as goal

pub returns : goal.returns
returns c = body_numbered c.statements_numbered.ensures.bodies c.places_numbered.ensures.procedures
