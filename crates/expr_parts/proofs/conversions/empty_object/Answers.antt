use Rattle.std.proofs.Common.{ap, ap₂, ◌∙◌, sym}
use Rattle.std.specs.Prelude.{Ok}
use Rattle.arc_base.specs.declared.place.Code.TheVariants.{NotTyped}
use Rattle.nim_types.specs.Types.{fact_of}
use Rattle.nim_types.specs.Table.{type_at}
use Rattle.nim_program.specs.Nodes as nodes
use Rattle.nim_program.specs.View.{expr_of, operands_of}
use Rattle.expr_rules.specs.Answers.{node}
use Rattle.expr_rules.specs.Constructions.{empty_object}
use Rattle.expr_parts.specs.View.{are_fields}
use Rattle.arc_base.proofs.ForCallers.{refuses}
use Rattle.expr_parts.proofs.Settling.{empty_with, empty_without}
use Rattle.expr_parts.proofs.conversions.empty_object.Goals as goal

pub returns-then-not-has_fields-clause-answers : goal.returns-then-not-has_fields-clause-answers
returns-then-not-has_fields-clause-answers c = λ ts facts u.
    let ty = type_at ts c.args.ty in
    let said = ap (fact_of facts) (c.entry.ensures.means ts facts u) ∙ c.entry.ensures.says ts facts u in
    refuses (expr_of ts) (empty_object c.args.number c.args.at ty (fact_of facts ty)) NotTyped c.args.at c.refusal.result c.refusal.ensures
    (empty_without c.args.number c.args.at ty (fact_of facts ty) (ap are_fields said ∙ c.has_fields.ensures ts ∙ c.if-not-has_fields.true))

pub returns-clause-answers : goal.returns-clause-answers
returns-clause-answers c = λ ts facts u.
    let n = node c.args.number c.args.at in
    let ty = type_at ts c.args.ty in
    let said = ap (fact_of facts) (c.entry.ensures.means ts facts u) ∙ c.entry.ensures.says ts facts u in
    empty_with c.args.number c.args.at ty (fact_of facts ty) (ap are_fields said ∙ c.has_fields.ensures ts ∙ c.if-not-has_fields.false)
    ∙ ap₂ (λ is os. Ok (nodes.construct n ty is (operands_of ts os))) (sym c.new.ensures) (sym c.new-2.ensures.items)
    ∙ ap Ok (sym (c.constructed.ensures.expr ts))
