use Rattle.std.proofs.Common.{subst, length}
use Rattle.nim_types.specs.Table.{IsBelow}
use Rattle.nim_program.specs.View.{expr_of}
use Rattle.expr_rules.specs.Answers.{value_of}
use Rattle.expr_parts.specs.View.{valued_of}
use Rattle.expr_parts.proofs.ForCallers.{goes, stops}
use Rattle.expr_steps.specs.ViewTyping.{asks_of, if_accepted}
use Rattle.expr_steps.proofs.given.accepted.Goals as goal

pub if_accepted-requires-clause-value : goal.if_accepted-requires-clause-value
if_accepted-requires-clause-value c = subst (IsBelow (length c.args.types.now)) c.in-Ok.ensures.number c.requires.expr

pub returns-in-Ok-clause-answers : goal.returns-in-Ok-clause-answers
returns-in-Ok-clause-answers c = λ ts facts u.
    let g = asks_of ts c.args.left.now c.args.asks in
    goes (valued_of ts) (valued_of ts) (value_of (expr_of ts c.args.expr)) (if_accepted g c.args.writable) c.in-Ok.value c.if_accepted.result
    (c.in-Ok.ensures.answers ts) (c.if_accepted.ensures.answers ts facts u)

pub returns-in-Err-clause-answers : goal.returns-in-Err-clause-answers
returns-in-Err-clause-answers c = λ ts facts u.
    let g = asks_of ts c.args.left.now c.args.asks in
    stops (valued_of ts) (valued_of ts) (value_of (expr_of ts c.args.expr)) (if_accepted g c.args.writable) c.in-Err.stop (c.in-Err.ensures.answers ts)
