use Rattle.std.proofs.Common.{ap, subst}
use Rattle.arc_base.specs.Refusal.{Answers}
use Rattle.nim_tree.specs.Types.{body_of}
use Rattle.nim_types.specs.Types as type
use Rattle.expr_parts.proofs.ForCallers.{answers_as}
use Rattle.decl_rules.specs.Sections.{members_rule}
use Rattle.decl_sections.specs.ViewBodies.{member_entries}
use Rattle.decl_sections.specs.ViewSections.{members_in}
use Rattle.decl_sections.proofs.reading.members_of.Goals as goal

pub returns-in-Enum-clause-answers : goal.returns-in-Enum-clause-answers
returns-in-Enum-clause-answers c = λ names key st h d.
    let ty = type.enum key in
    let all = subst (λ ms. Answers (member_entries ty 0) (members_rule st names ty 0 ms) c.new_members.result) c.as_slice.ensures.value
    (c.new_members.ensures.answers names ty st h d) in
    answers_as (member_entries ty 0) (members_in st names key (body_of c.args.body.now)) (members_rule st names ty 0 c.in-Enum.members.items)
    c.new_members.result (ap (λ b. members_in st names key (body_of b)) c.in-Enum.is) all
