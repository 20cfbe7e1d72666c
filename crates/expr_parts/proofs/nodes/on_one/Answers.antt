use Rattle.std.proofs.Common.{ap, ◌∙◌}
use Rattle.nim_program.specs.Program.{Apply, Doing}
use Rattle.nim_program.specs.View.{if_type}
use Rattle.expr_rules.specs.Answers.{node}
use Rattle.expr_parts.proofs.nodes.on_one.Goals as goal

pub returns-clause-expr : goal.returns-clause-expr
returns-clause-expr c = λ ts.
    c.applied.ensures.expr ts
    ∙ ap (Apply (node c.args.number c.args.at) (if_type ts c.args.ty) (Doing c.args.operation)) (c.in_ok-operands.ensures.operands ts)
