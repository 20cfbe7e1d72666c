use Rattle.std.proofs.Common.{ap₂, ◌∙◌}
use Rattle.nim_program.specs.View.{if_type}
use Rattle.expr_rules.specs.Choices.{same_value}
use Rattle.expr_parts.proofs.branching.same_value.Goals as goal

pub returns-in-Some-Some : goal.returns-in-Some-Some
returns-in-Some-Some c = λ ts facts u.
    ap₂ (λ x y. same_value (if_type ts x) (if_type ts y)) c.in-Some-Some.is-0 c.in-Some-Some.is-1 ∙ c.is_same.ensures ts facts u
