use Rattle.std.proofs.Common.{sym, ◌∙◌}
use Rattle.nim_types.specs.Table.{type_at}
use Rattle.nim_program.specs.Defaults.{default_literal}
use Rattle.expr_parts.proofs.ForCallers.{if_ok}
use Rattle.expr_constants.proofs.ConstantFields.{given_is, given_not}
use Rattle.expr_constants.proofs.defaults.field_literal.Goals as goal

pub returns-in-Some : goal.returns-in-Some
returns-in-Some c = if_ok c.copied.result c.copied.ensures (λ l h ts facts u.
    let other = default_literal facts (type_at ts c.args.ty) in
    h ∙ sym (given_is _ _ other _ _ (c.given_at.ensures other) c.in-Some.is))

pub returns-in-None : goal.returns-in-None
returns-in-None c = if_ok c.default_literal.result c.default_literal.ensures (λ l h ts facts u.
    let other = default_literal facts (type_at ts c.args.ty) in
    h ts facts u ∙ sym (given_not _ _ other _ (c.given_at.ensures other) c.in-None.is))
