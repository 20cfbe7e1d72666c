use Rattle.parse_stmts.proofs.Joining.{some_statements}
use Rattle.parse_stmts.proofs.block.compound.hold_some.Goals as goal

pub returns-in_default : goal.returns-in_default
returns-in_default c = some_statements c.args.body.now c.in_default.len_at_least
