use Rattle.std.proofs.Common.{ap, ◌∙◌, length, Some}
use Rattle.arc_base.specs.declared.place.Code.TheVariants.{NotTyped}
use Rattle.nim_types.specs.Table.{type_at}
use Rattle.nim_program.specs.Nodes as nodes
use Rattle.nim_program.specs.View.{expr_of}
use Rattle.expr_rules.specs.Answers.{node}
use Rattle.expr_rules.specs.Operators.{unary_of, unary_by, unary_rule}
use Rattle.expr_parts.specs.View.{valued_of}
use Rattle.arc_base.proofs.ForCallers.{refuses}
use Rattle.expr_parts.proofs.Making.{below_as, made_as}
use Rattle.expr_parts.proofs.operators.unary.Goals as goal

pub returns-in-Some-clause-answers : goal.returns-in-Some-clause-answers
returns-in-Some-clause-answers c = λ ts facts u.
    let v = c.args.value in
    made_as ts (unary_rule c.args.number c.args.at c.args.op (valued_of ts v))
    (λ ts. nodes.unary (node c.args.number c.args.at) (type_at ts v.ty) c.in-Some.operator (expr_of ts v.expr)) c.on_one.result
    (ap (λ o. unary_by c.args.number c.args.at o (valued_of ts v))
    (ap (unary_of c.args.op) (c.entry.ensures.means ts facts u) ∙ c.unary_operator.ensures ts ∙ c.in-Some.is))
    c.on_one.ensures.expr c.on_one.ensures.memory

pub returns-in-Some-clause-within : goal.returns-in-Some-clause-within
returns-in-Some-clause-within c =
    below_as (length c.args.types.now) (Some c.args.value.ty) c.on_one.result c.requires c.on_one.ensures.number

pub returns-in-None-clause-answers : goal.returns-in-None-clause-answers
returns-in-None-clause-answers c = λ ts facts u.
    let v = c.args.value in
    refuses (expr_of ts) (unary_rule c.args.number c.args.at c.args.op (valued_of ts v)) NotTyped c.args.at c.refusal.result c.refusal.ensures
    (ap (λ o. unary_by c.args.number c.args.at o (valued_of ts v))
    (ap (unary_of c.args.op) (c.entry.ensures.means ts facts u) ∙ c.unary_operator.ensures ts ∙ c.in-None.is))
