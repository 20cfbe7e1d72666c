use Rattle.std.proofs.Common.{◌++◌, ◌∙◌, [], ap, refl, None}
use Rattle.std.proofs.lemmas.Result.{on_ok_weaker}
use Rattle.nim_program.specs.View.{expr_of}
use Rattle.nim_program.proofs.ForCallers.{applied, called, constructed}
use Rattle.decl_rules.specs.Occurrences.{in_expr}
use Rattle.check_uses.specs.Uses.{seen, in_operand}
use Rattle.check_uses.proofs.Adding.{as_known, two, three, if_adds, case_adds}
use Rattle.check_uses.proofs.exprs.+exprs.Goals as goal

pub add_expr-returns-in-Apply : goal.add_expr-returns-in-Apply
add_expr-returns-in-Apply t c =
    let given = c.in-Apply in
    on_ok_weaker c.add_operands.result (λ h. as_known (seen c.args.uses.now) (seen c.add_operands.new.uses) _ (expr_of [] c.args.expr.now) _
    (ap (expr_of []) given.is ∙ applied [] given.node given.ty given.operation given.operands) refl h) c.add_operands.ensures

pub add_expr-returns-in-Construct : goal.add_expr-returns-in-Construct
add_expr-returns-in-Construct t c =
    let given = c.in-Construct in
    on_ok_weaker c.add_operands-in-Construct.result
    (λ h. as_known (seen c.args.uses.now) (seen c.add_operands-in-Construct.new.uses) _ (expr_of [] c.args.expr.now) _
    (ap (expr_of []) given.is ∙ constructed [] given.node given.ty given.fields given.operands) refl h) c.add_operands-in-Construct.ensures

pub add_expr-returns-in-Call : goal.add_expr-returns-in-Call
add_expr-returns-in-Call t c =
    let given = c.in-Call in
    on_ok_weaker c.add_call.result (λ h. as_known (seen c.args.uses.now) (seen c.add_call.new.uses) _ (expr_of [] c.args.expr.now) _
    (ap (expr_of []) given.is ∙ called [] given.node given.ty given.proc given.types given.operands) refl h) c.add_call.ensures

pub add_expr-returns-in_ok-add_choices-in-If : goal.add_expr-returns-in_ok-add_choices-in-If
add_expr-returns-in_ok-add_choices-in-If t c =
    let given = c.in-If in
    on_ok_weaker c.add_expr-in-If.result (λ h. as_known (seen c.args.uses.now) (seen c.add_expr-in-If.new.uses) _ (expr_of [] c.args.expr.now) _
    (ap (expr_of []) given.is) (if_adds given.node given.ty given.branches given.otherwise)
    (two (seen c.args.uses.now) _ (in_expr (expr_of [] given.otherwise.value)) (seen c.add_choices.new.uses) (seen c.add_expr-in-If.new.uses)
    c.in_ok-add_choices-in-If.ensures (h ∙ ap (λ e. seen c.add_choices.new.uses ++ in_expr (expr_of [] e)) c.deref-in-If.ensures)))
    c.add_expr-in-If.ensures

pub add_expr-returns-in_ok-add_picks-in-Case : goal.add_expr-returns-in_ok-add_picks-in-Case
add_expr-returns-in_ok-add_picks-in-Case t c =
    let given = c.in-Case in
    on_ok_weaker c.add_other.result (λ h. as_known (seen c.args.uses.now) (seen c.add_other.new.uses) _ (expr_of [] c.args.expr.now) _
    (ap (expr_of []) given.is) (case_adds given.node given.ty given.selector given.branches given.otherwise)
    (three (seen c.args.uses.now) (in_operand None given.selector.value) _ _ (seen c.add_operand.new.uses) (seen c.add_picks.new.uses)
    (seen c.add_other.new.uses)
    (c.in_ok-add_operand-in-Case.ensures ∙ ap (λ a. seen c.args.uses.now ++ in_operand None a) c.deref-in-Case.ensures)
    c.in_ok-add_picks-in-Case.ensures h)) c.add_other.ensures
