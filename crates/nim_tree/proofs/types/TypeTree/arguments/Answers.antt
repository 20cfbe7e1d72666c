use Rattle.std.proofs.Common.{sym, ap, ◌∙◌}
use Rattle.nim_tree.specs.Types.{arguments_of}
use Rattle.nim_tree.proofs.TypeRows.{arguments_inside}
use Rattle.nim_tree.proofs.types.TypeTree.arguments.Goals as goal

pub returns-in-Named : goal.returns-in-Named
returns-in-Named c = ap arguments_of c.deref.ensures.value ∙ sym (arguments_inside _ _ _ _ c.in-Named.is)
