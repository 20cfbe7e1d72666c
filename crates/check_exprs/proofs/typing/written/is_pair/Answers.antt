use Rattle.check_exprs.proofs.Shapes.{pair_is}
use Rattle.check_exprs.proofs.typing.written.is_pair.Goals as goal

pub returns : goal.returns
returns c = pair_is c.args.given.now
