use Rattle.std.proofs.Common.{ap, ◌∙◌}
use Rattle.nim_types.specs.Table.{type_at}
use Rattle.nim_program.specs.View.{if_type}
use Rattle.expr_rules.specs.Builtins.{is_text}
use Rattle.expr_rules.specs.Choices.{covers, span_of}
use Rattle.expr_builds.proofs.Labelling.{enough_ordinals, enough_texts}
use Rattle.expr_builds.proofs.label_list.is_enough.Goals as goal

pub returns : goal.returns
returns c = λ ts facts u.
    let ty = type_at ts c.args.ty in
    let means = c.entry-def.ensures.means ts facts u in
    enough_ordinals facts ty (if_type ts c.args.gives) c.args.labels.now (ap is_text means ∙ c.is_text.ensures ts ∙ c.if-is_text.false)
    ∙ ap (λ o. covers o c.args.labels.now) (ap (span_of facts) means ∙ c.span_of.ensures ts facts (c.entry-def.ensures.says ts facts u))
    ∙ c.cover.ensures

pub returns-then-is_text : goal.returns-then-is_text
returns-then-is_text c = λ ts facts u.
    let ty = type_at ts c.args.ty in
    enough_texts facts ty c.args.gives ts c.args.labels.now c.is_none.result
    (ap is_text (c.entry-def.ensures.means ts facts u) ∙ c.is_text.ensures ts ∙ c.if-is_text.true) c.is_none.ensures
