use Rattle.std.proofs.Common.{◌≡◌, ◌++◌, drop}
use Rattle.nim_program.specs.Program.{types_in}
use Rattle.nim_program.specs.View.{operands_of}
use Rattle.flattening.specs.Numbering.{all_numbers}
use Rattle.flattening.specs.Views.{types_of}
use Rattle.flattening.proofs.operand_lists.operand_types.Given as goal

abbrev pub invariant-loop-operand : goal.invariant-loop-operand
invariant-loop-operand l =
    let ts = types_of l.around in
    l.numbers ++ all_numbers ts (types_in (operands_of ts (drop l.operand-index l.operands.items)))
    ≡ all_numbers ts (types_in (operands_of ts l.operands.items))
