use Rattle.std.proofs.Common.{◌+◌, drop}
use Rattle.flattening.specs.Views.{types_of}
use Rattle.flattening.proofs.ExprPuts.{drop_turn}
use Rattle.flattening.proofs.OperandTypes.{types_next}
use Rattle.flattening.proofs.operand_lists.operand_types.Goals as goal

pub loop-operand-preserved : goal.loop-operand-preserved
loop-operand-preserved c =
    let loop = c.loop-operand in
    let x = c.operand-item.result in
    let next = drop_turn c.args.operands.now.items c.deref-operand-items.result.now loop.operand-index x c.deref-operand-items.ensures.value
    c.loop-operand-test.true
    c.operand-item.is in
    types_next (types_of c.args.around.now) _ (drop (loop.operand-index + 1) c.args.operands.now.items) x c.type_of.result loop.numbers c.push.new.self
    c.if_number.result _ next (c.type_of.ensures (types_of c.args.around.now)) c.if_number.ensures c.in_ok-push.ensures.ok loop.invariant
