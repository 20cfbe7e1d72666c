use Rattle.std.proofs.Common.{rules, ◌≡◌, length, sym, subst, arith}
use Rattle.rv32_isa.specs.Table.{AreDecoded}
use Rattle.rv32_isa.proofs.Tabled.{more_table}
use Rattle.rv32_isa.proofs.table.table_of.Goals as goal

pub loop-table-preserved : goal.loop-table-preserved
loop-table-preserved c =
    let more = c.loop-table-test.true in
    let count : c.len-at.result ≡ length c.loop-table.table.items = search rules in
    let table = more_table c.args.code.now c.loop-table.table.items c.len-at.result c.instr_of.result count c.loop-table.invariant
    (omega arith) c.instr_of.ensures in
    subst (AreDecoded c.args.code.now) (sym c.in_ok-push.ensures.items) table
