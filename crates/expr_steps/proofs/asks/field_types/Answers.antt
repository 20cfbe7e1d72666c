use Rattle.std.proofs.Common.{sym, subst, ap, ◌∙◌}
use Rattle.std.specs.Prelude.{map}
use Rattle.nim_types.specs.Table.{type_at, AllBelow}
use Rattle.expr_parts.proofs.ForCallers.{if_ok}
use Rattle.expr_steps.proofs.Asking.{field_types_are, field_types_within}
use Rattle.expr_steps.proofs.asks.field_types.Goals as goal

pub returns-clause-types : goal.returns-clause-types
returns-clause-types c = if_ok c.type_ids.result c.type_ids.ensures.ids (λ ids h ts. ap (map (type_at ts)) h ∙ field_types_are ts c.args.fields.now)

pub returns-clause-within : goal.returns-clause-within
returns-clause-within c =
    if_ok c.type_ids.result c.type_ids.ensures.ids (λ ids h n w. subst (AllBelow n) (sym h) (field_types_within n c.args.fields.now w))
