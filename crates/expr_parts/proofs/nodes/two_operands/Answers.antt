use Rattle.std.proofs.Common.{ap, ◌∙◌}
use Rattle.nim_program.specs.Nodes.{followed_by}
use Rattle.nim_program.specs.Program.{NoArg}
use Rattle.nim_program.specs.View.{operand_before}
use Rattle.expr_parts.proofs.Fields.{if_ok}
use Rattle.expr_parts.proofs.Operands.{one_before}
use Rattle.expr_parts.proofs.nodes.two_operands.Goals as goal

pub returns-in-Ok-clause-operands : goal.returns-in-Ok-clause-operands
returns-in-Ok-clause-operands c = if_ok c.and_operand.result c.and_operand.ensures.operands (λ os h ts.
    let last = operand_before ts c.args.second NoArg in
    h ts ∙ ap (λ z. followed_by z last) (c.in-Ok.ensures.operands ts) ∙ one_before ts c.args.first last)
