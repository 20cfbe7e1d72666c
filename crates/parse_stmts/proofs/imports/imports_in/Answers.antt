use Rattle.std.proofs.Common.{◌∙◌}
use Rattle.parse_stmts.proofs.Collecting.{one_statement}
use Rattle.parse_stmts.proofs.imports.imports_in.Goals as goal

pub loop-statement-preserved : goal.loop-statement-preserved
loop-statement-preserved c =
    one_statement c.loop-statement.all.items _ c.args.body.now c.loop-statement.statement-index c.statement-item.result c.statement-item.is
    c.loop-statement-test.true c.in_ok-all.ensures.ok ∙ c.loop-statement.invariant
