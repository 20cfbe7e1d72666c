use Rattle.std.proofs.Common.{ap, sym}
use Rattle.nim_program.specs.View.{expr_of, literal_of}
use Rattle.expr_rules.specs.Constants.{if_comes, value_in}
use Rattle.expr_constants.specs.ViewConstants.{evaluated_of}
use Rattle.expr_parts.proofs.ForCallers.{answers_as}
use Rattle.expr_constants.proofs.constant_rules.constant_at.Goals as goal

pub returns : goal.returns
returns c = λ ts facts u.
    answers_as literal_of (if_comes c.args.at (value_in facts (expr_of ts c.args.expr.now)))
    (if_comes c.args.at (evaluated_of literal_of c.in_ok-value.value))
    c.if_comes.result (ap (if_comes c.args.at) (sym (c.in_ok-value.ensures ts facts u))) c.if_comes.ensures
