use Rattle.std.proofs.Common.{[], ◌∷◌, sym, ap, ◌∙◌, length, Some}
use Rattle.std.specs.Prelude.{Ok}
use Rattle.arc_base.specs.declared.place.Code.TheVariants.{NotTyped}
use Rattle.nim_types.specs.Table.{type_at}
use Rattle.nim_program.specs.Nodes.{compare}
use Rattle.nim_program.specs.View.{expr_of}
use Rattle.expr_rules.specs.Answers.{node}
use Rattle.expr_rules.specs.Calls.{borrowed_call}
use Rattle.expr_parts.specs.View.{valued_of}
use Rattle.arc_base.proofs.ForCallers.{refuses}
use Rattle.expr_parts.proofs.Making.{below_as, made_as}
use Rattle.expr_parts.proofs.TypeNumbers.{bool_under, bool_below}
use Rattle.expr_parts.proofs.borrowed.borrowed_on_two.Goals as goal

pub returns-in-Some-clause-answers : goal.returns-in-Some-clause-answers
returns-in-Some-clause-answers c = λ ts facts u p q.
    let n = node c.args.number c.args.at in
    let vs = (p, valued_of ts c.args.left) ∷ (q, valued_of ts c.args.right) ∷ [] in
    made_as ts (borrowed_call c.args.number c.args.at c.args.comparison vs)
    (λ ts. compare n (type_at ts c.args.kinds.bool) c.in-Some.comparison (expr_of ts c.args.left.expr) (expr_of ts c.args.right.expr)) c.on_two.result
    (ap (λ o. borrowed_call c.args.number c.args.at o vs) c.in-Some.is
    ∙ ap (λ t. Ok (compare n t c.in-Some.comparison (expr_of ts c.args.left.expr) (expr_of ts c.args.right.expr)))
    (sym (bool_under {k = c.args.kinds} u c.requires)))
    c.on_two.ensures.expr c.on_two.ensures.memory

pub returns-in-None-clause-answers : goal.returns-in-None-clause-answers
returns-in-None-clause-answers c = λ ts facts u p q.
    let vs = (p, valued_of ts c.args.left) ∷ (q, valued_of ts c.args.right) ∷ [] in
    refuses (expr_of ts) (borrowed_call c.args.number c.args.at c.args.comparison vs) NotTyped c.args.at c.refusal.result c.refusal.ensures
    (ap (λ o. borrowed_call c.args.number c.args.at o vs) c.in-None.is)

pub returns-in-Some-clause-within : goal.returns-in-Some-clause-within
returns-in-Some-clause-within c =
    below_as (length c.args.types.now) (Some c.args.kinds.bool) c.on_two.result (bool_below {k = c.args.kinds} c.requires) c.on_two.ensures.number
