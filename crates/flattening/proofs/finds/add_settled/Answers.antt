use Rattle.std.proofs.Common.{◌+◌, drop, sym, ap, ◌∙◌}
use Rattle.nim_program.specs.Program.{NoArg}
use Rattle.nim_program.specs.View.{operand_before, operands_of}
use Rattle.flattening.specs.ExprLines.{settle_lines}
use Rattle.flattening.specs.Views.{types_of, facts_of}
use Rattle.flattening.proofs.ExprPuts.{drop_turn, drop_end, turned, ended, settle_next}
use Rattle.flattening.proofs.Writing.{puts_none}
use Rattle.flattening.proofs.finds.add_settled.Goals as goal

pub loop-operand-preserved : goal.loop-operand-preserved
loop-operand-preserved c =
    let ts = types_of c.args.around.now in
    let facts = facts_of c.args.around.now in
    let loop = c.loop-operand in
    let x = c.operand-item.result in
    let left = operands_of ts (drop (loop.operand-index + 1) c.args.operands.now.items) in
    let next = drop_turn c.args.operands.now.items c.deref-operand-items.result.now loop.operand-index x c.deref-operand-items.ensures.value
    c.loop-operand-test.true
    c.operand-item.is in
    turned _ loop.code c.add_place.new.code _ (settle_lines ts facts (operands_of ts (drop loop.operand-index c.args.operands.now.items)) loop.u)
    (settle_lines ts facts (operand_before ts x NoArg) loop.u) (settle_lines ts facts left c.in-Some.following) loop.invariant c.add_place.ensures
    (λ k. settle_next ts facts ts x left loop.u c.in-Some.following c.in-Some.ensures k
    ∙ ap (λ ys. settle_lines ts facts (operands_of ts ys) loop.u k) (sym next))

pub returns : goal.returns
returns c =
    let ts = types_of c.args.around.now in
    let facts = facts_of c.args.around.now in
    let loop = c.loop-operand in
    let none = drop_end c.args.operands.now.items c.deref-operand-items.result.now loop.operand-index c.deref-operand-items.ensures.value
    c.loop-operand-test.false in
    ended _ loop.code loop.code _ (settle_lines ts facts (operands_of ts (drop loop.operand-index c.args.operands.now.items)) loop.u) (λ k. k) loop.invariant
    (λ k. ap (λ ys. settle_lines ts facts (operands_of ts ys) loop.u k) (sym none)) (puts_none loop.code)
