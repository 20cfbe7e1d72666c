use Rattle.std.proofs.Common.{ap, sym, ◌∙◌}
use Rattle.arc_base.specs.declared.place.Code.TheVariants.{NotTyped}
use Rattle.arc_base.specs.Refusal.{and_then}
use Rattle.nim_types.specs.Table.{type_at}
use Rattle.nim_program.specs.declared.expr.Node.{Node}
use Rattle.nim_program.specs.Program.{node_of}
use Rattle.nim_program.specs.View.{expr_of, label_of}
use Rattle.expr_rules.specs.Answers.{place_in}
use Rattle.expr_rules.specs.Choices.{label_by, label_value}
use Rattle.expr_rules.specs.Constants.{if_comes, value_in}
use Rattle.expr_parts.specs.View.{valued_of}
use Rattle.expr_parts.proofs.ForCallers.{answers_as, refuses}
use Rattle.expr_constants.proofs.ConstantSteps.{label_if, refused_at}
use Rattle.expr_constants.proofs.constant_rules.label_value.Goals as goal

pub returns-then-not-is_same-clause-answers : goal.returns-then-not-is_same-clause-answers
returns-then-not-is_same-clause-answers c = λ ts facts u.
    let e = expr_of ts c.args.value.expr in
    let ty = type_at ts c.args.ty in
    let v = valued_of ts c.args.value in
    refuses label_of (label_value facts ty v) NotTyped (place_in e) c.refusal.result
    (refused_at c.refusal.result c.node.result (node_of e) c.refusal.ensures (c.node.ensures ts))
    (label_if facts ty v _ (c.is_same.ensures ts facts u ∙ c.if-not-is_same.true))

pub returns-clause-answers : goal.returns-clause-answers
returns-clause-answers c = λ ts facts u.
    let e = expr_of ts c.args.value.expr in
    let ty = type_at ts c.args.ty in
    let v = valued_of ts c.args.value in
    let all = value_in facts e in
    answers_as label_of (label_value facts ty v) (and_then (if_comes c.node.result.at all) (label_by c.node.result.at)) c.constant_label-label.result
    (label_if facts ty v _ (c.is_same.ensures ts facts u ∙ c.if-not-is_same.false)
    ∙ ap (λ (n : Node). and_then (if_comes n.at all) (label_by n.at)) (sym (c.node.ensures ts)))
    (c.constant_label-label.ensures.answers ts facts u)
