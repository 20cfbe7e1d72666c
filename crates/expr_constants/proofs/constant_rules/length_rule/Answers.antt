use Rattle.std.proofs.Common.{ℤ, ap, sym, ◌∙◌}
use Rattle.arc_base.specs.declared.place.Code.TheVariants.{NotTyped}
use Rattle.arc_base.specs.Refusal.{and_then}
use Rattle.nim_program.specs.declared.expr.Node.{Node}
use Rattle.nim_program.specs.Program.{node_of}
use Rattle.nim_program.specs.View.{expr_of}
use Rattle.expr_rules.specs.Answers.{place_in}
use Rattle.expr_rules.specs.Builtins.{is_int}
use Rattle.expr_rules.specs.Constants.{if_comes, value_in}
use Rattle.expr_rules.specs.Names.{length_by, length_rule}
use Rattle.expr_parts.specs.View.{valued_of}
use Rattle.expr_parts.proofs.ForCallers.{answers_as, refuses}
use Rattle.expr_constants.proofs.ConstantSteps.{length_if, refused_at}
use Rattle.expr_constants.proofs.constant_rules.length_rule.Goals as goal

pub returns-then-not-is_int : goal.returns-then-not-is_int
returns-then-not-is_int c = λ ts facts u.
    let e = expr_of ts c.args.value.expr in
    let v = valued_of ts c.args.value in
    refuses (λ (z : ℤ). z) (length_rule facts v) NotTyped (place_in e) c.refusal.result
    (refused_at c.refusal.result c.node.result (node_of e) c.refusal.ensures (c.node.ensures ts))
    (length_if facts v _ (ap is_int (c.entry.ensures.means ts facts u) ∙ c.is_int.ensures ts ∙ c.if-not-is_int.true))

pub returns : goal.returns
returns c = λ ts facts u.
    let e = expr_of ts c.args.value.expr in
    let v = valued_of ts c.args.value in
    let all = value_in facts e in
    answers_as (λ (z : ℤ). z) (length_rule facts v) (and_then (if_comes c.node.result.at all) (length_by c.node.result.at)) c.constant_length-length.result
    (length_if facts v _ (ap is_int (c.entry.ensures.means ts facts u) ∙ c.is_int.ensures ts ∙ c.if-not-is_int.false)
    ∙ ap (λ (n : Node). and_then (if_comes n.at all) (length_by n.at)) (sym (c.node.ensures ts)))
    (c.constant_length-length.ensures ts facts u)
