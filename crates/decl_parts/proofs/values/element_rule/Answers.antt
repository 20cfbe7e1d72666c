use Rattle.std.proofs.Common.{ap, ◌∙◌, length, subst}
use Rattle.arc_base.specs.declared.place.Code.TheVariants.{NotTyped}
use Rattle.arc_base.specs.declared.place.Stop.TheVariants as stop
use Rattle.nim_types.specs.Table.{type_at, IsBelow}
use Rattle.nim_program.specs.View.{expr_of, if_type}
use Rattle.expr_rules.specs.Answers.{place_in}
use Rattle.expr_rules.specs.Constructions.{element_type}
use Rattle.expr_parts.proofs.ForCallers.{refuses, char_below, char_under}
use Rattle.decl_rules.specs.Values.{element_or}
use Rattle.decl_parts.proofs.values.element_rule.Goals as goal

pub returns-in-Some-clause-answers : goal.returns-in-Some-clause-answers
returns-in-Some-clause-answers c = λ ts facts u.
    ap (element_or (place_in (expr_of ts c.args.value.now.expr)))
    (ap element_type (c.entry.ensures.means ts facts u) ∙ c.element_type.ensures.means ts (char_under u c.requires.kinds) ∙ ap (if_type ts) c.in-Some.is)

pub returns-in-Some-clause-within : goal.returns-in-Some-clause-within
returns-in-Some-clause-within c =
    subst (IsBelow (length c.args.types.now)) c.in-Some.is
    (c.element_type.ensures.within (length c.args.types.now) (char_below c.requires.kinds) c.entry.ensures.inside)

pub returns-in-None-clause-answers : goal.returns-in-None-clause-answers
returns-in-None-clause-answers c = λ ts facts u.
    let p = place_in (expr_of ts c.args.value.now.expr) in
    refuses (type_at ts) (element_or p (element_type (type_at ts c.args.value.now.ty))) NotTyped p c.refusal.result
    (c.refusal.ensures ∙ ap (λ n. stop.Refused NotTyped n.at) (c.node.ensures ts))
    (ap (element_or p)
    (ap element_type (c.entry.ensures.means ts facts u) ∙ c.element_type.ensures.means ts (char_under u c.requires.kinds) ∙ ap (if_type ts) c.in-None.is))
