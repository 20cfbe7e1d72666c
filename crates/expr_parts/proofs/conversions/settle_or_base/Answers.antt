use Rattle.std.proofs.Common.{◌∙◌, sym}
use Rattle.nim_types.specs.Table.{type_at}
use Rattle.expr_rules.specs.Answers.{settled}
use Rattle.expr_rules.specs.Constructions.{from_distinct}
use Rattle.expr_parts.specs.View.{operand_of}
use Rattle.expr_parts.proofs.Settling.{first_of_some}
use Rattle.expr_parts.proofs.conversions.settle_or_base.Goals as goal

pub returns-then-settles-clause-given : goal.returns-then-settles-clause-given
returns-then-settles-clause-given c = λ ts facts u.
    let o = operand_of ts c.args.operand in
    c.settle.ensures.given ts facts u
    ∙ sym (first_of_some (settled (type_at ts c.args.source) o) (from_distinct facts (type_at ts c.args.ty) o)
    (c.settles.ensures.means ts facts u ∙ c.if-settles.true))
