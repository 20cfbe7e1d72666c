use Rattle.std.proofs.Common.{ap, ◌∙◌}
use Rattle.nim_types.specs.Types.{fact_of}
use Rattle.nim_types.specs.Table.{type_at}
use Rattle.expr_parts.specs.View.{are_fields}
use Rattle.expr_builds.proofs.Planning.{object_is}
use Rattle.expr_builds.proofs.plans.object_at.Goals as goal

pub returns-then-has_fields-clause-object : goal.returns-then-has_fields-clause-object
returns-then-has_fields-clause-object c = λ ts facts u.
    object_is (type_at ts c.args.id) (fact_of facts (type_at ts c.args.id)) _
    (ap (λ t. are_fields (fact_of facts t)) (c.entry.ensures.means ts facts u) ∙ ap are_fields (c.entry.ensures.says ts facts u)
    ∙ c.has_fields.ensures ts ∙ c.if-has_fields.true)

pub returns-else-has_fields-clause-object : goal.returns-else-has_fields-clause-object
returns-else-has_fields-clause-object c = λ ts facts u.
    object_is (type_at ts c.args.id) (fact_of facts (type_at ts c.args.id)) _
    (ap (λ t. are_fields (fact_of facts t)) (c.entry.ensures.means ts facts u) ∙ ap are_fields (c.entry.ensures.says ts facts u)
    ∙ c.has_fields.ensures ts ∙ c.if-has_fields.false)
