use Rattle.std.proofs.Common.{sym, ap, ◌∙◌}
use Rattle.std.specs.Prelude.{option_map}
use Rattle.arc_base.specs.declared.place.Code.TheVariants.{NotTyped}
use Rattle.arc_base.specs.Refusal.{refused}
use Rattle.nim_types.specs.Table.{type_at}
use Rattle.nim_program.specs.Nodes as nodes
use Rattle.nim_program.specs.View.{expr_of}
use Rattle.expr_rules.specs.Answers.{node}
use Rattle.expr_rules.specs.Constructions.{convert_by}
use Rattle.expr_parts.specs.View.{operand_of, valued_of, converts}
use Rattle.arc_base.proofs.ForCallers.{refuses}
use Rattle.expr_parts.proofs.Making.{made_as}
use Rattle.expr_parts.proofs.Settling.{no_fit_one}
use Rattle.expr_parts.proofs.conversions.convert.Goals as goal

pub returns-in-Some-clause-answers : goal.returns-in-Some-clause-answers
returns-in-Some-clause-answers c = λ ts facts u.
    let o = operand_of ts c.args.operand in
    made_as ts (converts facts c.args.number c.args.at (type_at ts c.args.ty) o)
    (λ ts. nodes.convert (node c.args.number c.args.at) (type_at ts c.args.ty) (expr_of ts c.in-Some.value.expr)) c.on_one.result
    (ap (convert_by c.args.number c.args.at (type_at ts c.args.ty) o)
    (sym (sym (ap (option_map (valued_of ts)) c.in-Some.is) ∙ c.source_value.ensures.given ts facts u)))
    c.on_one.ensures.expr c.on_one.ensures.memory

pub returns-in-None-clause-answers : goal.returns-in-None-clause-answers
returns-in-None-clause-answers c = λ ts facts u.
    let o = operand_of ts c.args.operand in
    let ty = type_at ts c.args.ty in
    refuses (expr_of ts) (converts facts c.args.number c.args.at ty o) NotTyped c.place_or_open-place.result c.refusal.result c.refusal.ensures
    (ap (convert_by c.args.number c.args.at ty o)
    (sym (sym (ap (option_map (valued_of ts)) c.in-None.is) ∙ c.source_value.ensures.given ts facts u))
    ∙ no_fit_one c.args.at o ∙ ap (λ p. refused NotTyped p) (c.place_or_open-place.ensures ts))
