use Rattle.nim_tree.proofs.ForCallers.{named_type}
use Rattle.parse_decls.proofs.make.make_named.Goals as goal

pub returns : goal.returns
returns c = named_type c.args.at c.args.text c.args.arguments
