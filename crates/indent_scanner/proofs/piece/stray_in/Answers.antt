use Rattle.std.proofs.Common.{sym, ap, ◌∙◌, get_or, arith, ◌<◌, length}
use Rattle.indent_scanner.specs.ByForm.{may_hold}
use Rattle.indent_scanner.proofs.Strays.{clean_more, stray_here}
use Rattle.indent_scanner.proofs.piece.stray_in.Goals as goal

pub returns-then-not-may_hold : goal.returns-then-not-may_hold
returns-then-not-may_hold c =
    let inside : c.loop-at.at < length c.args.bytes.now = omega arith in
    sym (stray_here c.loop-at.at c.args.len c.args.bytes.now c.args.shape c.loop-at-test.true inside c.loop-at.invariant
    (ap (may_hold c.args.shape (get_or c.args.bytes.now c.loop-at.at 0)) (sym c.byte_at.ensures) ∙ sym c.may_hold.ensures ∙ c.if-not-may_hold.true))

pub loop-at-preserved : goal.loop-at-preserved
loop-at-preserved c =
    let inside : c.loop-at.at < length c.args.bytes.now = omega arith in
    clean_more c.loop-at.at c.args.bytes.now c.args.shape inside c.loop-at.invariant
    (ap (may_hold c.args.shape (get_or c.args.bytes.now c.loop-at.at 0)) (sym c.byte_at.ensures) ∙ sym c.may_hold.ensures ∙ c.if-not-may_hold.false)
