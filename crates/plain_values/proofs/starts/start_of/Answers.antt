use Rattle.std.proofs.Common.{ap}
use Rattle.plain_values.specs.Entries.{starts_at}
use Rattle.plain_values.proofs.StartRows.{if_is}
use Rattle.plain_values.proofs.starts.start_of.Goals as goal

pub returns : goal.returns
returns c = if_is c.start.result _ _ c.start.ensures (ap (λ n. starts_at n c.args.types.now c.args.ty) c.requires)
