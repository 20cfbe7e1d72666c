use Rattle.std.proofs.Common.{◌<◌, arith}
use Rattle.std.specs.Prelude.{length}
use Rattle.expr_constants.proofs.Fixing.{fixed_below}
use Rattle.expr_constants.proofs.defaults.known.Goals as goal

pub unreachable-requires : goal.unreachable-requires
unreachable-requires c =
    let below : c.args.id < length c.args.types.now = fixed_below c.args.types.now c.args.id c.count.ensures.table c.requires in
    omega (arith, c.if-id-count.true, c.count.ensures.count, below)
