use Rattle.std.proofs.Common.{ap, ◌∙◌}
use Rattle.arc_base.specs.declared.place.Code.TheVariants.{CaseCover}
use Rattle.nim_types.specs.Table.{type_at}
use Rattle.nim_program.specs.View.{if_type}
use Rattle.expr_rules.specs.Choices.{cover_by, cover_rule}
use Rattle.expr_parts.specs.View.{if_allowed}
use Rattle.expr_parts.proofs.ForCallers.{answers_as}
use Rattle.expr_builds.proofs.Labelling.{cover_allowed}
use Rattle.expr_builds.proofs.label_list.cover_rule.Goals as goal

pub returns : goal.returns
returns c = λ ts facts u.
    answers_as (λ (x : Unit {0}). tt) (cover_rule facts c.args.at (type_at ts c.args.ty) (if_type ts c.args.gives) c.args.labels.now)
    (if_allowed c.is_enough.result CaseCover c.args.at) c.allow.result
    (ap (λ b. cover_by b c.args.at) (c.is_enough.ensures ts facts u) ∙ cover_allowed c.is_enough.result c.args.at) c.allow.ensures
