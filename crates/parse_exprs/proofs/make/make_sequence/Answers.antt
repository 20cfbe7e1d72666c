use Rattle.nim_tree.proofs.ForCallers.{sequenced}
use Rattle.parse_exprs.proofs.make.make_sequence.Goals as goal

pub returns : goal.returns
returns c = sequenced c.args.at c.args.parts
