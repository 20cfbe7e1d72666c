use Rattle.std.proofs.Common.{◌+◌, drop, arith}
use Rattle.flattening.specs.Views.{types_of, facts_of, modes_of, uses_of, act_of}
use Rattle.flattening.proofs.ExprPuts.{drop_turn}
use Rattle.flattening.proofs.OperandTypes.{froms_next}
use Rattle.flattening.proofs.operand_lists.froms.Goals as goal

pub loop-operand-preserved : goal.loop-operand-preserved
loop-operand-preserved c =
    let a = c.args.around.now in
    let loop = c.loop-operand in
    let x = c.operand-item.result in
    let next = drop_turn c.args.operands.now.items c.deref-operand-items.result.now loop.operand-index x c.deref-operand-items.ensures.value
    c.loop-operand-test.true
    c.operand-item.is in (
      omega arith,
      froms_next (types_of a) (facts_of a) (act_of c.args.uses) _ (drop (loop.operand-index + 1) c.args.operands.now.items) x c.in-Some.from loop.all
          c.push.new.self _ (uses_of (modes_of a) c.args.uses) c.use_at-how.result loop.position (loop.position + 1) loop.u c.in-Some-behind_operand.following
          next c.in-Some.ensures c.use_at-how.ensures (omega arith) c.in-Some-behind_operand.ensures c.in_ok-push.ensures.ok loop.invariant.1,
    )
