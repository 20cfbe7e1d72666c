use Rattle.std.proofs.Common.{ap, ◌∙◌, sym}
use Rattle.std.specs.Prelude.{option_map}
use Rattle.nim_types.specs.Table.{type_at}
use Rattle.expr_rules.specs.Answers.{only_if}
use Rattle.expr_rules.specs.Constructions.{from_distinct}
use Rattle.expr_parts.specs.View.{operand_of, valued_of}
use Rattle.expr_parts.proofs.Settling.{map_only}
use Rattle.expr_parts.proofs.conversions.from_distinct.Goals as goal

pub returns-in-Value-clause-given : goal.returns-in-Value-clause-given
returns-in-Value-clause-given c = λ ts facts u.
    let v = c.in-Value.value in
    ap (option_map (valued_of ts)) c.only_if.ensures ∙ map_only (valued_of ts) c.is_base.result v
    ∙ ap (λ b. only_if b (valued_of ts v)) (sym (c.is_base.ensures ts facts u))
    ∙ ap (λ o. from_distinct facts (type_at ts c.args.ty) (operand_of ts o)) (sym c.in-Value.is)
