use Rattle.std.proofs.Common.{sym, ap, ◌∙◌}
use Rattle.nim_tree.specs.Statements.{handlers_of}
use Rattle.nim_tree.proofs.StmtRows.{handlers_inside}
use Rattle.nim_tree.proofs.stmt.Stmt.handlers.Goals as goal

pub returns-in-Try : goal.returns-in-Try
returns-in-Try c = ap handlers_of c.deref.ensures.value ∙ sym (handlers_inside _ _ _ _ _ c.in-Try.is)
