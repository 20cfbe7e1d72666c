use Rattle.expr_calls.proofs.Operating.{unnamed}
use Rattle.expr_calls.proofs.operator_calls.comparison_name.Goals as goal

pub returns-in_default : goal.returns-in_default
returns-in_default c =
    unnamed c.args.op _ c.in_default.not-Equal c.in_default.not-Unequal c.in_default.not-Less c.in_default.not-AtMost c.in_default.not-Greater
    c.in_default.not-AtLeast
