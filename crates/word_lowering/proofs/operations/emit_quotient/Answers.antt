use Rattle.word_lowering.specs.Operations.{divisor_code, divided_code}
use Rattle.word_lowering.proofs.Emits.{then_puts, ok_as}
use Rattle.word_lowering.proofs.operations.emit_quotient.Goals as goal

pub returns : goal.returns
returns c =
    let a = c.args in
    ok_as c.emit_divided.result (then_puts (divisor_code a.right) (divided_code a.label a.to a.left a.right) _ _ _ c.in_ok-emit_divisor.ensures)
    c.emit_divided.ensures
