use Rattle.std.proofs.Common.{[], ◌∷◌, sym, ap, ◌∙◌, length, Some}
use Rattle.std.specs.Prelude.{Ok}
use Rattle.arc_base.specs.declared.place.Code.TheVariants.{NotTyped}
use Rattle.nim_types.specs.Table.{type_at}
use Rattle.nim_program.specs.Nodes.{show}
use Rattle.nim_program.specs.View.{expr_of}
use Rattle.expr_rules.specs.Answers.{node}
use Rattle.expr_rules.specs.Calls.{borrowed_call}
use Rattle.expr_parts.specs.View.{valued_of}
use Rattle.arc_base.proofs.ForCallers.{refuses}
use Rattle.expr_parts.proofs.Making.{below_as, made_as}
use Rattle.expr_parts.proofs.TypeNumbers.{text_under, text_below}
use Rattle.expr_parts.proofs.borrowed.borrowed_on_one.Goals as goal

pub returns-in-None-clause-answers : goal.returns-in-None-clause-answers
returns-in-None-clause-answers c = λ ts facts u p.
    let n = node c.args.number c.args.at in
    let vs = (p, valued_of ts c.args.value) ∷ [] in
    made_as ts (borrowed_call c.args.number c.args.at c.args.comparison vs)
    (λ ts. show n (type_at ts c.args.kinds.text) (expr_of ts c.args.value.expr)) c.on_one.result
    (ap (λ o. borrowed_call c.args.number c.args.at o vs) c.in-None.is
    ∙ ap (λ t. Ok (show n t (expr_of ts c.args.value.expr))) (sym (text_under {k = c.args.kinds} u c.requires)))
    c.on_one.ensures.expr c.on_one.ensures.memory

pub returns-in-Some-clause-answers : goal.returns-in-Some-clause-answers
returns-in-Some-clause-answers c = λ ts facts u p.
    let vs = (p, valued_of ts c.args.value) ∷ [] in
    refuses (expr_of ts) (borrowed_call c.args.number c.args.at c.args.comparison vs) NotTyped c.args.at c.refusal.result c.refusal.ensures
    (ap (λ o. borrowed_call c.args.number c.args.at o vs) c.in-Some.is)

pub returns-in-None-clause-within : goal.returns-in-None-clause-within
returns-in-None-clause-within c =
    below_as (length c.args.types.now) (Some c.args.kinds.text) c.on_one.result (text_below {k = c.args.kinds} c.requires) c.on_one.ensures.number
