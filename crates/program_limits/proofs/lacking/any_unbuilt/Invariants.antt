use Rattle.std.proofs.Common.{◌≡◌, drop}
use Rattle.nim_program.specs.Program.{types_in}
use Rattle.nim_program.specs.View.{operands_of}
use Rattle.nim_meaning.specs.Unbuilt.{any_unbuilt}
use Rattle.program_limits.specs.Known.{known_types, known_facts}
use Rattle.program_limits.proofs.lacking.any_unbuilt.Given as goal

abbrev pub invariant-loop-operand : goal.invariant-loop-operand
invariant-loop-operand l =
    any_unbuilt (known_facts l.known) (types_in (operands_of (known_types l.known) l.operands.items)) ≡
    any_unbuilt (known_facts l.known) (types_in (operands_of (known_types l.known) (drop l.operand-index l.operands.items)))
