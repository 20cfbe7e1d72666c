use Rattle.std.proofs.Common.{sym, ap, ◌∙◌}
use Rattle.nim_tree.specs.Statements.{branches_of}
use Rattle.nim_tree.proofs.StmtRows.{branches_inside}
use Rattle.nim_tree.proofs.stmt.Stmt.branches.Goals as goal

pub returns-in-If : goal.returns-in-If
returns-in-If c = ap branches_of c.deref.ensures.value ∙ sym (branches_inside _ _ c.in-If.is)
