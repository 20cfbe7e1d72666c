use Rattle.std.proofs.Common.{sym, ap, ◌∙◌}
use Rattle.nim_tree.specs.Terms.{parts_of}
use Rattle.nim_tree.proofs.Rows.{parts_inside}
use Rattle.nim_tree.proofs.expr.Expr.parts.Goals as goal

pub returns-in-Tuple : goal.returns-in-Tuple
returns-in-Tuple c = ap parts_of c.deref.ensures.value ∙ sym (parts_inside _ _ c.in-Tuple.is)
