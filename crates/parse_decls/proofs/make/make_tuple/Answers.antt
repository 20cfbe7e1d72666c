use Rattle.nim_tree.proofs.ForCallers.{tuple_type}
use Rattle.parse_decls.proofs.make.make_tuple.Goals as goal

pub returns : goal.returns
returns c = tuple_type c.args.at c.args.fields
