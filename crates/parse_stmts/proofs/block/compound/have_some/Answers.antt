use Rattle.nim_tree.specs.Statements.{statements_of}
use Rattle.parse_stmts.specs.Run.{hold_some}
use Rattle.parse_stmts.proofs.Joining.{some_handlers}
use Rattle.parse_stmts.proofs.block.compound.have_some.Goals as goal

pub returns-in_default : goal.returns-in_default
returns-in_default c = some_handlers c.args.all.now (hold_some (statements_of c.args.last.now)) c.in_default.len_at_least
