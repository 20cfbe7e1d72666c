use Rattle.std.proofs.Common.{◌+◌, ◌∙◌, refl, ap, drop, arith}
use Rattle.std.proofs.Common.{drop_of_length-le}
use Rattle.std.specs.Prelude.{Err}
use Rattle.arc_base.specs.Refusal.{and_then}
use Rattle.nim_tree.specs.Statements.{statements_of}
use Rattle.expr_rules.specs.Answers.{Answer}
use Rattle.expr_parts.proofs.ForCallers.{answers_as, stops}
use Rattle.decl_rules.specs.LeftOut.{nothing_left_out}
use Rattle.decl_rules.specs.Elaborated.{none_left_out}
use Rattle.check_decls.specs.Modules.{in_order}
use Rattle.check_decls.proofs.Drafts.{next_form}
use Rattle.check_decls.proofs.modules.check_all_forms.Goals as goal

pub loop-i-init : goal.loop-i-init
loop-i-init c = refl

pub loop-i-preserved : goal.loop-i-preserved
loop-i-preserved c =
    let order = c.args.order.now in
    let modules = c.args.modules.now in
    let i = c.loop-i.i in
    let rest = none_left_out (in_order modules (drop (i + 1) order)) in
    c.loop-i.invariant
    ∙ next_form modules order i c.number_at-number.result (statements_of c.body_at.result.now) c.body_at.ensures c.number_at-number.ensures
    ∙ ap (λ (x : Answer (Unit {0})). and_then x (λ _. rest)) c.in-Ok.ensures.answers

pub returns : goal.returns
returns c =
    let order = c.args.order.now in
    c.loop-i.invariant
    ∙ ap (λ l. none_left_out (in_order c.args.modules.now l)) (drop_of_length-le order (omega (arith, c.loop-i-test.false)))

pub returns-in-Err : goal.returns-in-Err
returns-in-Err c =
    let order = c.args.order.now in
    let modules = c.args.modules.now in
    let i = c.loop-i.i in
    let rest = none_left_out (in_order modules (drop (i + 1) order)) in
    let body = statements_of c.body_at.result.now in
    answers_as (λ (x : Unit {0}). tt) (none_left_out (in_order modules order)) (and_then (nothing_left_out body) (λ _. rest)) (Err c.in-Err.stop)
    (c.loop-i.invariant ∙ next_form modules order i c.number_at-number.result body c.body_at.ensures c.number_at-number.ensures)
    (stops (λ (x : Unit {0}). tt) (λ (x : Unit {0}). tt) (nothing_left_out body) (λ _. rest) c.in-Err.stop c.in-Err.ensures.answers)
