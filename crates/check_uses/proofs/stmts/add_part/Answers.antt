use Rattle.std.proofs.Common.{◌++◌, [], arith}
use Rattle.nim_program.specs.View.{stmts_of}
use Rattle.decl_rules.specs.Occurrences.{in_block}
use Rattle.check_uses.specs.Uses.{seen}
use Rattle.check_uses.proofs.Adding.{block_next}
use Rattle.check_uses.proofs.stmts.add_part.Goals as goal

pub loop-stmt-preserved : goal.loop-stmt-preserved
loop-stmt-preserved c =
    let xs = c.args.stmts.now in
    block_next (seen c.loop-stmt.uses) (seen c.add_stmt.new.uses) (seen c.args.uses.now ++ in_block (stmts_of [] xs)) xs c.loop-stmt.stmt-index
    c.stmt-item.result (omega (arith, c.loop-stmt-test.true)) c.stmt-item.is c.loop-stmt.invariant c.in_ok-add_stmt.ensures
