use Rattle.std.proofs.Common.{ap, sym, ◌∙◌, subst}
use Rattle.std.specs.Prelude.{length}
use Rattle.nim_types.specs.Types.{Ty, fact_of, fields_in}
use Rattle.nim_types.specs.Table.{AllBelow}
use Rattle.nim_program.specs.Program.{PartsOf}
use Rattle.nim_program.specs.View.{literals_of}
use Rattle.expr_rules.specs.Constants.{limited, field_literals, with_values}
use Rattle.expr_constants.specs.ViewConstants.{field_values}
use Rattle.expr_constants.proofs.ConstantFields.{known_below}
use Rattle.expr_constants.proofs.ConstantTypes.{known_fields}
use Rattle.expr_constants.proofs.defaults.object_with.Goals as goal

pub field_literals-requires : goal.field_literals-requires
field_literals-requires c =
    subst (AllBelow (length c.args.types.now)) (sym c.known_parts.ensures)
    (known_below (length c.args.types.now) c.known-def.result.now c.known-def.ensures.parts)

pub returns : goal.returns
returns c = λ ts facts u.
    let given = with_values c.args.fields.now (literals_of c.args.values.now) in
    let d = c.known-def.result.now in
    c.limited.ensures
    ∙ ap limited (c.parts_with.ensures
    ∙ ap PartsOf (c.in_ok-all.ensures ts facts u ∙ ap (λ ps. field_values facts ts 0 ps given) c.known_parts.ensures ∙ known_fields ts facts d given
    ∙ ap (λ f. field_literals facts 0 (fields_in f) given) (sym (c.known-def.ensures.says ts facts u))
    ∙ ap (λ (t : Ty). field_literals facts 0 (fields_in (fact_of facts t)) given) (sym (c.known-def.ensures.means ts facts u))))
