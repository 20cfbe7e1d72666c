use Rattle.std.proofs.Common.{suc, length}
use Rattle.nim_program.specs.declared.expr.Expr.{Expr}
use Rattle.nim_program.specs.View.{expr_of}
use Rattle.expr_rules.specs.Answers.{gives, typed_as}
use Rattle.expr_rules.specs.Names.{named_value}
use Rattle.expr_parts.specs.View.{env_of, typed_of}
use Rattle.expr_parts.proofs.ForCallers.{answers_as}
use Rattle.expr_steps.proofs.Finishing.{stops_as}
use Rattle.expr_steps.proofs.simple.name_of.Goals as goal

pub returns-in-Ok-clause-answers : goal.returns-in-Ok-clause-answers
returns-in-Ok-clause-answers c = λ ts facts u.
    let n = c.args.number in
    answers_as (typed_of ts) (named_value (env_of ts facts c.args.scope.now) n c.args.at c.args.text.now)
    (gives (expr_of ts c.in-Ok.expr) (suc n)) c.single.result
    (c.in-Ok.ensures.answers ts facts) (c.single.ensures.answers ts)

pub returns-in-Err-clause-answers : goal.returns-in-Err-clause-answers
returns-in-Err-clause-answers c = λ ts facts u.
    let n = c.args.number in
    stops_as (typed_of ts) (λ (e : Expr). typed_as (expr_of ts e) (suc n)) (named_value (env_of ts facts c.args.scope.now) n c.args.at c.args.text.now)
    c.in-Err.stop (c.in-Err.ensures.answers ts facts)

pub returns-in-Ok-clause-within : goal.returns-in-Ok-clause-within
returns-in-Ok-clause-within c =
    let n = length c.args.types.now in c.single.ensures.within n (c.in-Ok.ensures.within n c.requires.ready.decls)
