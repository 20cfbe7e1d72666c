use Rattle.std.proofs.Common.{arith}
use Rattle.word_lowering.specs.Scope.{around_of}
use Rattle.word_lowering.proofs.Parts.{parts_next, parts_end}
use Rattle.word_lowering.proofs.values.emit_parts.Goals as goal

pub loop-from-preserved : goal.loop-from-preserved
loop-from-preserved c =
    let at = c.loop-from in
    parts_next (around_of c.args.x.now) c.args.parts.now at.from-index _ at.to c.in_ok-to.to c.operand-part.result c.spot_of.result at.code
    c.emit_moved.new.code _ (omega (arith, c.loop-from-test.true)) c.operand-part.ensures c.spot_of.ensures c.in_ok-emit_moved.ensures c.in_ok-to.ensures
    at.invariant

pub returns : goal.returns
returns c =
    let at = c.loop-from in
    parts_end (around_of c.args.x.now) c.args.parts.now at.from-index at.to at.code _ (omega (arith, c.loop-from-test.false)) at.invariant
