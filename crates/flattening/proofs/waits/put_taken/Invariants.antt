use Rattle.std.proofs.Common.{◌≡◌, List, Option, drop}
use Rattle.nim_program.specs.View.{operands_of}
use Rattle.nim_meaning.specs.Waiting.{held_from}
use Rattle.flat_code.specs.declared.line.Line.{Line}
use Rattle.flattening.specs.ExprLines.{taken_lines}
use Rattle.flattening.specs.Views.{types_of, facts_of, modes_of, uses_of}
use Rattle.flattening.specs.Written.{IsPut}
use Rattle.flattening.proofs.waits.put_taken.Given as goal

abbrev pub invariant-loop-operand : goal.invariant-loop-operand
invariant-loop-operand l =
    let ts = types_of l.around in
    let held = held_from (facts_of l.around) (modes_of l.around) in
    let uses = uses_of (modes_of l.around) l.uses in
    (l.position ≡ l.operand-index)
    × ((new : Option (List Line)) → IsPut l.code new (taken_lines (held (operands_of ts (drop l.operand-index l.operands.items)) uses l.position)) →
    IsPut l.fn.code new (taken_lines (held (operands_of ts l.operands.items) uses 0)))
