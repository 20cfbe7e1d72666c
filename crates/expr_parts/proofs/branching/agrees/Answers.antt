use Rattle.std.proofs.Common.{ap, ◌∙◌}
use Rattle.nim_program.specs.View.{if_type}
use Rattle.expr_rules.specs.Choices.{agrees}
use Rattle.expr_parts.specs.View.{branching_of}
use Rattle.expr_parts.proofs.branching.agrees.Goals as goal

pub returns-in-Decided : goal.returns-in-Decided
returns-in-Decided c = λ ts facts u. ap (λ b. agrees (branching_of ts b) (if_type ts c.args.ty)) c.in-Decided.is ∙ c.same_value.ensures ts facts u
