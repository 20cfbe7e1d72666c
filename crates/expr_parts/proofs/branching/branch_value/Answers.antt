use Rattle.std.proofs.Common.{ap, ◌∙◌, sym}
use Rattle.arc_base.specs.declared.place.Code.TheVariants.{NotTyped}
use Rattle.arc_base.specs.declared.place.Stop.TheVariants as stop
use Rattle.nim_program.specs.View.{expr_of}
use Rattle.expr_rules.specs.Answers.{place_in}
use Rattle.expr_rules.specs.Choices.{branch_value, if_agrees, agrees}
use Rattle.expr_parts.specs.View.{branching_of}
use Rattle.arc_base.proofs.ForCallers.{refuses}
use Rattle.expr_parts.proofs.branching.branch_value.Goals as goal

pub returns-then-not-agrees-clause-answers : goal.returns-then-not-agrees-clause-answers
returns-then-not-agrees-clause-answers c = λ ts facts u.
    let e = expr_of ts c.args.expr in
    let b = branching_of ts c.args.branching in
    refuses (expr_of ts) (branch_value b e) NotTyped (place_in e) c.refusal.result
    (c.refusal.ensures ∙ ap (λ n. stop.Refused NotTyped n.at) (c.node.ensures ts))
    (ap (λ z. if_agrees (agrees b z) e) (sym (c.type_number.ensures.ty ts)) ∙ ap (λ z. if_agrees z e) (c.agrees.ensures ts facts u ∙ c.if-not-agrees.true))

pub returns-clause-answers : goal.returns-clause-answers
returns-clause-answers c = λ ts facts u.
    let e = expr_of ts c.args.expr in
    let b = branching_of ts c.args.branching in
    ap (λ z. if_agrees (agrees b z) e) (sym (c.type_number.ensures.ty ts)) ∙ ap (λ z. if_agrees z e) (c.agrees.ensures ts facts u ∙ c.if-not-agrees.false)
