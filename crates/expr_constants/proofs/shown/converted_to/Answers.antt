use Rattle.std.proofs.Common.{ap, ap₂, sym, ◌∙◌}
use Rattle.nim_types.specs.Table.{type_at}
use Rattle.plain_values.specs.Values.{limit_of}
use Rattle.nim_program.specs.View.{literal_of}
use Rattle.expr_constants.proofs.ConstantTypes.{by_limit, converted_as}
use Rattle.expr_constants.proofs.shown.converted_to.Goals as goal

pub returns-in-Some : goal.returns-in-Some
returns-in-Some c = λ ts facts u.
    let l = literal_of c.args.a in
    c.among.ensures
    ∙ sym (converted_as facts (type_at ts c.args.ty) l
    ∙ ap (λ o. by_limit o l) (ap₂ limit_of u.said (c.requires ts facts u) ∙ sym c.limit_of.ensures ∙ c.in-Some.is))

pub returns-in-None : goal.returns-in-None
returns-in-None c = λ ts facts u.
    let l = literal_of c.args.a in
    sym (converted_as facts (type_at ts c.args.ty) l
    ∙ ap (λ o. by_limit o l) (ap₂ limit_of u.said (c.requires ts facts u) ∙ sym c.limit_of.ensures ∙ c.in-None.is))
