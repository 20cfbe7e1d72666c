use Rattle.nim_tree.proofs.TypeRows.{named_type, tuple_type}
use Rattle.nim_tree.proofs.laws.type_trees.Goals as goal

pub returns-clause-named_type : goal.returns-clause-named_type
returns-clause-named_type c = named_type

pub returns-clause-tuple_type : goal.returns-clause-tuple_type
returns-clause-tuple_type c = tuple_type
