use Rattle.expr_rules.specs.Answers.{node}
use Rattle.nim_program.proofs.ForCallers as rows
use Rattle.expr_parts.proofs.nodes.constructed.Goals as goal

pub returns-clause-expr : goal.returns-clause-expr
returns-clause-expr c = λ ts. rows.constructed ts (node c.args.number c.args.at) c.args.ty c.args.fields c.args.operands
