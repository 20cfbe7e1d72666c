use Rattle.nim_program.specs.View.{expr_of}
use Rattle.expr_rules.specs.Names.{callee_rule, method_rule}
use Rattle.expr_parts.specs.View.{operand_of, env_of}
use Rattle.expr_parts.proofs.ForCallers.{goes, stops}
use Rattle.expr_steps.proofs.any_call.dot_call.Goals as goal

pub returns-in-Ok-clause-answers : goal.returns-in-Ok-clause-answers
returns-in-Ok-clause-answers c = λ ts facts u.
    let env = env_of ts facts c.args.scope.now in
    let o = operand_of ts c.args.operand in
    let x = c.args.name.now in
    goes {S = Unit {0}} (expr_of ts) (λ _. tt) (callee_rule env c.args.at x) (λ _. method_rule env c.args.number c.args.at x o) tt c.method_rule.result
    (c.in-Ok.ensures ts facts) (c.method_rule.ensures.answers ts facts u)

pub returns-in-Err-clause-answers : goal.returns-in-Err-clause-answers
returns-in-Err-clause-answers c = λ ts facts u.
    let env = env_of ts facts c.args.scope.now in
    let o = operand_of ts c.args.operand in
    let x = c.args.name.now in
    stops {S = Unit {0}} (expr_of ts) (λ _. tt) (callee_rule env c.args.at x) (λ _. method_rule env c.args.number c.args.at x o) c.in-Err.stop
    (c.in-Err.ensures ts facts)
