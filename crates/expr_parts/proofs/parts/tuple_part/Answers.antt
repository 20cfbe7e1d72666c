use Rattle.std.proofs.Common.{ap, ◌∙◌}
use Rattle.std.specs.Prelude.{option_map}
use Rattle.expr_parts.specs.View.{found_of}
use Rattle.expr_parts.proofs.Fields.{part_is}
use Rattle.expr_parts.proofs.parts.tuple_part.Goals as goal

pub returns-clause-found : goal.returns-clause-found
returns-clause-found c = λ ts. ap (option_map (found_of ts)) c.part_from.ensures.found ∙ part_is ts c.args.name.now 0 c.args.names.now c.args.parts.now
