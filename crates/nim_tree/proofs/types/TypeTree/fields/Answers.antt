use Rattle.std.proofs.Common.{sym, ap, ◌∙◌}
use Rattle.nim_tree.specs.Types.{fields_of}
use Rattle.nim_tree.proofs.TypeRows.{fields_inside}
use Rattle.nim_tree.proofs.types.TypeTree.fields.Goals as goal

pub returns-in-Tuple : goal.returns-in-Tuple
returns-in-Tuple c = ap fields_of c.deref.ensures.value ∙ sym (fields_inside _ _ _ c.in-Tuple.is)
