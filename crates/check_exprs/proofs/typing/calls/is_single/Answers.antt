use Rattle.check_exprs.proofs.Shapes.{single_is}
use Rattle.check_exprs.proofs.typing.calls.is_single.Goals as goal

pub returns : goal.returns
returns c = single_is c.args.parts.now
