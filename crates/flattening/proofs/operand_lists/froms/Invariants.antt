use Rattle.std.proofs.Common.{◌≡◌, ◌++◌, drop}
use Rattle.nim_program.specs.View.{operands_of}
use Rattle.flattening.specs.ExprLines.{froms}
use Rattle.flattening.specs.Views.{types_of, facts_of, modes_of, uses_of, act_of}
use Rattle.flattening.proofs.operand_lists.froms.Given as goal

abbrev pub invariant-loop-operand : goal.invariant-loop-operand
invariant-loop-operand l =
    let ts = types_of l.around in
    let uses = uses_of (modes_of l.around) l.uses in
    (l.position ≡ l.operand-index)
    × (l.all ++ froms (facts_of l.around) (act_of l.uses) (operands_of ts (drop l.operand-index l.operands.items)) uses l.position l.u
    ≡ froms (facts_of l.around) (act_of l.uses) (operands_of ts l.operands.items) uses 0 l.t)
