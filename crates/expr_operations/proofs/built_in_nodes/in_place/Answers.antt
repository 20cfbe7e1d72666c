use Rattle.std.proofs.Common.{ap, ◌∙◌}
use Rattle.nim_program.specs.Nodes.{one_path}
use Rattle.nim_program.specs.Program.{Apply, Doing}
use Rattle.nim_program.specs.View.{if_type}
use Rattle.expr_rules.specs.Answers.{node}
use Rattle.expr_parts.proofs.ForCallers.{if_ok}
use Rattle.expr_operations.proofs.built_in_nodes.in_place.Goals as goal

pub returns-clause-expr : goal.returns-clause-expr
returns-clause-expr c = if_ok c.on_one.result c.on_one.ensures.expr (λ e h ts.
    h ts
    ∙ ap (λ p. Apply (node c.args.number c.args.at) (if_type ts c.args.ty) (Doing c.args.operation) (one_path p)) (c.in_ok-path.ensures.path ts))
