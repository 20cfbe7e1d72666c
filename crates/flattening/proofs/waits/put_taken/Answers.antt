use Rattle.std.proofs.Common.{◌+◌, drop, sym, ap, ◌∙◌, arith}
use Rattle.nim_program.specs.Program.{NoArg}
use Rattle.nim_program.specs.View.{operand_before, operands_of}
use Rattle.nim_meaning.specs.Waiting.{held_from}
use Rattle.flattening.specs.ExprLines.{taken_lines}
use Rattle.flattening.specs.Views.{types_of, facts_of, modes_of, uses_of}
use Rattle.flattening.proofs.ExprPuts.{drop_turn, drop_end, turned, ended}
use Rattle.flattening.proofs.WaitPuts.{taken_next}
use Rattle.flattening.proofs.Writing.{puts_none}
use Rattle.flattening.proofs.waits.put_taken.Goals as goal

pub loop-operand-preserved : goal.loop-operand-preserved
loop-operand-preserved c =
    let ts = types_of c.args.around.now in
    let facts = facts_of c.args.around.now in
    let modes = modes_of c.args.around.now in
    let loop = c.loop-operand in
    let x = c.operand-item.result in
    let how = c.use_at.result in
    let uses = uses_of modes c.args.uses in
    let held = held_from facts modes in
    let left = operands_of ts (drop (loop.operand-index + 1) c.args.operands.now.items) in
    let next = drop_turn c.args.operands.now.items c.deref-operand-items.result.now loop.operand-index x c.deref-operand-items.ensures.value
    c.loop-operand-test.true
    c.operand-item.is in (
      omega arith,
      turned _ loop.code c.put_taken_one.new.code _
          (taken_lines (held (operands_of ts (drop loop.operand-index c.args.operands.now.items)) uses loop.position))
          (taken_lines (held (operand_before ts x NoArg) (λ j. how) 0)) (taken_lines (held left uses (loop.position + 1))) loop.invariant.1
          c.put_taken_one.ensures
          (λ k. taken_next facts modes ts x left uses how loop.position (loop.position + 1) c.use_at.ensures (omega arith) k
          ∙ ap (λ ys. taken_lines (held (operands_of ts ys) uses loop.position) k) (sym next)),
    )

pub returns : goal.returns
returns c =
    let ts = types_of c.args.around.now in
    let held = held_from (facts_of c.args.around.now) (modes_of c.args.around.now) in
    let loop = c.loop-operand in
    let uses = uses_of (modes_of c.args.around.now) c.args.uses in
    let none = drop_end c.args.operands.now.items c.deref-operand-items.result.now loop.operand-index c.deref-operand-items.ensures.value
    c.loop-operand-test.false in
    ended _ loop.code loop.code _ (taken_lines (held (operands_of ts (drop loop.operand-index c.args.operands.now.items)) uses loop.position)) (λ k. k)
    loop.invariant.1 (λ k. ap (λ ys. taken_lines (held (operands_of ts ys) uses loop.position) k) (sym none)) (puts_none loop.code)
