use Rattle.std.proofs.Common.{ap, arith, ◌∙◌}
use Rattle.nim_types.specs.Types.{same}
use Rattle.nim_types.specs.Table.{type_at}
use Rattle.expr_parts.proofs.ForCallers.{nothing_left}
use Rattle.expr_calls.proofs.Echoing.{one_taken, two_taken}
use Rattle.expr_calls.proofs.dollars.takes_before.Goals as goal

pub returns-then-count-gt0 : goal.returns-then-count-gt0
returns-then-count-gt0 c = λ ts facts u v t. two_taken ts c.args.param c.args.others.now v (omega (arith, c.if-count-gt0.true))

pub returns : goal.returns
returns c = λ ts facts u v t.
    one_taken ts c.args.param c.args.others.now v c.is_same.result (nothing_left c.args.others.now (omega (arith, c.if-count-gt0.false)))
    (ap (same (type_at ts c.args.param.ty)) t ∙ c.is_same.ensures ts facts u)
