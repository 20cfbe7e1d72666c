use Rattle.std.proofs.Common.{ap, ◌∙◌, sym}
use Rattle.std.specs.Prelude.{option_map}
use Rattle.expr_parts.specs.View.{valued_of}
use Rattle.expr_parts.proofs.settle.settled.Goals as goal

pub returns-clause-given : goal.returns-clause-given
returns-clause-given c = λ ts facts u. sym (c.settle.ensures.given ts facts u) ∙ ap (option_map (valued_of ts)) c.in-Some.is
