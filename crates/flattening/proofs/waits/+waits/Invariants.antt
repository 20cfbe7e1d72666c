use Rattle.std.proofs.Common.{◌≡◌, ◌++◌, drop}
use Rattle.nim_program.specs.View.{operands_of}
use Rattle.nim_meaning.specs.Waiting.{waiting_all}
use Rattle.flattening.specs.Views.{types_of, facts_of, modes_of, uses_of, waits_own}
use Rattle.flattening.proofs.waits.+waits.Given as goal

abbrev pub invariant-add_waits_of-loop-operand : goal.invariant-add_waits_of-loop-operand
invariant-add_waits_of-loop-operand l =
    let ts = types_of l.around in
    let waits = waiting_all (facts_of l.around) (modes_of l.around) in
    let uses = uses_of (modes_of l.around) l.uses in
    (l.position ≡ l.operand-index)
    × (l.ends ++ waits_own ts (waits (operands_of ts (drop l.operand-index l.operands.items)) uses l.position)
    ≡ l.fn.ends ++ waits_own ts (waits (operands_of ts l.operands.items) uses 0))
