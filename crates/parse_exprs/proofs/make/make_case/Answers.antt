use Rattle.nim_tree.proofs.ForCallers.{selected}
use Rattle.parse_exprs.proofs.make.make_case.Goals as goal

pub returns : goal.returns
returns c = selected c.args.at c.args.selector c.args.branches
