use Rattle.std.proofs.Common.{sym, ap, ◌∙◌}
use Rattle.nim_tree.specs.Terms.{choices_of}
use Rattle.nim_tree.proofs.Rows.{branches_inside}
use Rattle.nim_tree.proofs.expr.Expr.branches.Goals as goal

pub returns-in-If : goal.returns-in-If
returns-in-If c = ap choices_of c.deref.ensures.value ∙ sym (branches_inside _ _ c.in-If.is)
