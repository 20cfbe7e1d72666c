use Rattle.std.proofs.Common.{List, Option, drop}
use Rattle.nim_program.specs.View.{operands_of}
use Rattle.flat_code.specs.declared.line.Line.{Line}
use Rattle.flattening.specs.ExprLines.{settle_lines}
use Rattle.flattening.specs.Views.{types_of, facts_of}
use Rattle.flattening.specs.Written.{IsPut}
use Rattle.flattening.proofs.finds.add_settled.Given as goal

abbrev pub invariant-loop-operand : goal.invariant-loop-operand
invariant-loop-operand l =
    let ts = types_of l.around in
    let facts = facts_of l.around in
    (new : Option (List Line)) → IsPut l.code new (settle_lines ts facts (operands_of ts (drop l.operand-index l.operands.items)) l.u) →
    IsPut l.fn.code new (settle_lines ts facts (operands_of ts l.operands.items) l.t)
