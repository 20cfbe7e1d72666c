use Rattle.expr_calls.proofs.Operating.{means_other}
use Rattle.expr_calls.proofs.operator_calls.has_meaning.Goals as goal

pub returns-in-Nothing : goal.returns-in-Nothing
returns-in-Nothing c = c.in-Nothing.is

pub returns-in_default : goal.returns-in_default
returns-in_default c = means_other c.args.meaning c.in_default.not-Nothing
