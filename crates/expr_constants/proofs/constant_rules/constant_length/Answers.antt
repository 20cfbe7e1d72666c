use Rattle.std.proofs.Common.{ℤ}
use Rattle.nim_program.specs.View.{expr_of, literal_of}
use Rattle.expr_rules.specs.Names.{length_by}
use Rattle.expr_rules.specs.Constants.{if_comes, value_in}
use Rattle.expr_parts.proofs.ForCallers.{goes, stops}
use Rattle.expr_constants.proofs.constant_rules.constant_length.Goals as goal

pub returns-in-Ok : goal.returns-in-Ok
returns-in-Ok c = λ ts facts u.
    goes (λ (z : ℤ). z) literal_of (if_comes c.args.at (value_in facts (expr_of ts c.args.expr.now)))
    (length_by c.args.at) c.in-Ok.literal c.length_by.result
    (c.in-Ok.ensures ts facts u) c.length_by.ensures

pub returns-in-Err : goal.returns-in-Err
returns-in-Err c = λ ts facts u.
    stops (λ (z : ℤ). z) literal_of (if_comes c.args.at (value_in facts (expr_of ts c.args.expr.now))) (length_by c.args.at) c.in-Err.stop
    (c.in-Err.ensures ts facts u)
