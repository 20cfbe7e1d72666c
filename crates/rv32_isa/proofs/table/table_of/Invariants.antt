use Rattle.std.specs.Prelude.{◌-◌, length}
use Rattle.rv32_isa.specs.Table.{AreDecoded}
use Rattle.rv32_isa.proofs.table.table_of.Given as goal

abbrev pub invariant-loop-table : goal.invariant-loop-table
invariant-loop-table l = AreDecoded l.code l.table.items

abbrev pub decreases-loop-table : goal.decreases-loop-table
decreases-loop-table l = l.count - length l.table.items
