use Rattle.std.proofs.Common.{◌<◌, sym, subst, ap, length}
use Rattle.nim_types.specs.Table.{type_at}
use Rattle.expr_rules.specs.Answers.{Valued}
use Rattle.expr_rules.specs.Demands.{accepts}
use Rattle.expr_rules.specs.Typed.{accepted_by}
use Rattle.expr_parts.specs.View.{valued_of}
use Rattle.expr_parts.proofs.ForCallers.{answers_as, if_ok}
use Rattle.expr_steps.specs.ViewTyping.{asks_of}
use Rattle.expr_steps.proofs.given.if_accepted.Goals as goal

pub returns-clause-answers : goal.returns-clause-answers
returns-clause-answers c = λ ts facts u.
    let v : Valued = record (valued_of ts c.args.value) { writable = c.args.writable } in
    answers_as (valued_of ts) (accepted_by (accepts (asks_of ts c.args.left.now c.args.asks) (type_at ts c.args.value.ty)) v)
    (accepted_by c.accepts.result v) c.accepted_by.result (ap (λ b. accepted_by b v) (c.accepts.ensures ts facts u)) (c.accepted_by.ensures.answers ts)

pub returns-clause-within : goal.returns-clause-within
returns-clause-within c =
    if_ok c.accepted_by.result c.accepted_by.ensures.same (λ v h. subst (λ v. v.ty < length c.args.types.now) (sym h) c.requires.value)
