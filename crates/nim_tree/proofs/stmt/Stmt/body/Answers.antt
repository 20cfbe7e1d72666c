use Rattle.std.proofs.Common.{sym, ap, ◌∙◌}
use Rattle.nim_tree.specs.Statements.{statements_of}
use Rattle.nim_tree.proofs.StmtRows.{body_inside}
use Rattle.nim_tree.proofs.stmt.Stmt.body.Goals as goal

pub returns-in-While : goal.returns-in-While
returns-in-While c = ap statements_of c.deref.ensures.value ∙ sym (body_inside _ _ c.in-While.is)
