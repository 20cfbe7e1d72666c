use Rattle.std.proofs.Common.{sym, ◌∙◌}
use Rattle.parse_exprs.specs.Input.{origin_of, from_at}
use Rattle.parse_exprs.proofs.Going.{unary_deep, unary_stuck}
use Rattle.parse_exprs.proofs.read.operators.no_level.Goals as goal

pub returns-then-operand_at : goal.returns-then-operand_at
returns-then-operand_at c = λ i. unary_deep (origin_of c.args.input.now) i (from_at c.args.input.now c.args.at)
    (sym c.operand_at.ensures ∙ c.if-operand_at.true)

pub returns-else-operand_at : goal.returns-else-operand_at
returns-else-operand_at c = λ i. unary_stuck (origin_of c.args.input.now) i (from_at c.args.input.now c.args.at)
    (sym c.operand_at.ensures ∙ c.if-operand_at.false)
