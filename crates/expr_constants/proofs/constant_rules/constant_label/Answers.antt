use Rattle.nim_program.specs.View.{expr_of, literal_of, label_of}
use Rattle.expr_rules.specs.Choices.{label_by}
use Rattle.expr_rules.specs.Constants.{if_comes, value_in}
use Rattle.expr_parts.proofs.ForCallers.{goes, stops}
use Rattle.expr_constants.proofs.constant_rules.constant_label.Goals as goal

pub returns-in-Ok-clause-answers : goal.returns-in-Ok-clause-answers
returns-in-Ok-clause-answers c = λ ts facts u.
    goes label_of literal_of (if_comes c.args.at (value_in facts (expr_of ts c.args.expr.now))) (label_by c.args.at) c.in-Ok.literal c.label_by.result
    (c.in-Ok.ensures ts facts u) c.label_by.ensures.answers

pub returns-in-Err-clause-answers : goal.returns-in-Err-clause-answers
returns-in-Err-clause-answers c = λ ts facts u.
    stops label_of literal_of (if_comes c.args.at (value_in facts (expr_of ts c.args.expr.now))) (label_by c.args.at) c.in-Err.stop
    (c.in-Err.ensures ts facts u)
