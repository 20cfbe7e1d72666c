use Rattle.typing_laws.proofs.Preserved.{preserved}
use Rattle.typing_laws.proofs.Programs.{types_sound}
use Rattle.typing_laws.proofs.laws.types_sound.Goals as goal

pub returns : goal.returns
returns c = types_sound (record {
  calls = c.calls_computed.ensures.calls;
  nodes = c.typing_computed.ensures.nodes;
  covers = c.calls_computed.ensures.enough;
  preserved = λ here known. preserved here known c.ints.ensures.closed c.ints.ensures.closed_one;
  closed = c.ints.ensures.closed;
  closed_one = c.ints.ensures.closed_one;
  found = c.types_found.ensures.known;
  statements = c.places_numbered.ensures.statements;
  procedures = c.places_numbered.ensures.procedures;
  numbered = c.statements_numbered.ensures.statements;
  bodies = c.statements_numbered.ensures.bodies;
  computed = c.statements_computed.ensures.statements;
})
