use Rattle.std.proofs.Common.{sym, ap, ◌∙◌}
use Rattle.nim_tree.specs.Statements.{statements_of}
use Rattle.nim_tree.proofs.StmtRows.{closing_inside}
use Rattle.nim_tree.proofs.stmt.Stmt.closing.Goals as goal

pub returns-in-If : goal.returns-in-If
returns-in-If c = ap statements_of c.deref.ensures.value ∙ sym (closing_inside _ _ c.in-If.is)
