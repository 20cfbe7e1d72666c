use Rattle.std.proofs.Common.{ap, ◌∙◌}
use Rattle.nim_program.specs.View.{operands_of}
use Rattle.expr_parts.proofs.Operands.{operands_last}
use Rattle.expr_parts.proofs.nodes.and_operand.Goals as goal

pub returns-clause-operands : goal.returns-clause-operands
returns-clause-operands c = λ ts. ap (operands_of ts) c.in_ok-push.ensures.items ∙ operands_last ts c.args.operands.items c.args.operand
