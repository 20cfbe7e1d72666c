use Rattle.std.proofs.Common.{◌∙◌}
use Rattle.parse_stmts.proofs.Collecting.{one_name}
use Rattle.parse_stmts.proofs.imports.and_names.Goals as goal

pub loop-name-preserved : goal.loop-name-preserved
loop-name-preserved c = one_name c.loop-name.all.items _ c.args.names.now c.loop-name.name-index c.name-item.result c.name-item.is c.loop-name-test.true
    c.in_ok-all.ensures.ok ∙ c.loop-name.invariant
