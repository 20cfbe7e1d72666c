use Rattle.std.proofs.Common.{◌≡◌, ◌+◌, get_or, sym, ap, ◌∙◌, arith}
use Rattle.std.specs.Prelude.{Some}
use Rattle.indent_scanner.specs.Shape.{step}
use Rattle.indent_scanner.proofs.Fronts.{form_more, form_over, deeper_at}
use Rattle.indent_scanner.proofs.shape.run.Goals as goal

pub returns-in_default-clause-stuck : goal.returns-in_default-clause-stuck
returns-in_default-clause-stuck c =
    let e = form_more c.loop-at.at c.args.bytes.now c.args.shape c.loop-at.state c.loop-at-test.true c.loop-at.invariant.reached in
    e ∙ ap (step c.loop-at.state (get_or c.args.bytes.now c.loop-at.at 0)) (sym c.byte_at.ensures) ∙ sym c.step.ensures ∙ c.in_default.is

pub loop-at-preserved : goal.loop-at-preserved
loop-at-preserved c =
    let e = form_more c.loop-at.at c.args.bytes.now c.args.shape c.loop-at.state c.loop-at-test.true c.loop-at.invariant.reached in
    let is : step c.loop-at.state (get_or c.args.bytes.now c.loop-at.at 0) (get_or c.args.bytes.now (c.loop-at.at + 1) 0) ≡ Some c.in-Some.next =
    ap (step c.loop-at.state (get_or c.args.bytes.now c.loop-at.at 0)) (sym c.byte_at.ensures) ∙ sym c.step.ensures ∙ c.in-Some.is in
    let d = deeper_at c.loop-at.state c.in-Some.next _ _ is in
    record { reached = e ∙ is; inside = omega arith; shallow = omega (arith, d, c.loop-at.invariant.shallow) }

pub returns-clause-stuck : goal.returns-clause-stuck
returns-clause-stuck c = form_over c.loop-at.at c.args.bytes.now c.args.shape c.loop-at-test.false
