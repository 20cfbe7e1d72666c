use Rattle.std.proofs.Common.{ap, ◌∙◌}
use Rattle.nim_program.specs.Nodes.{one_value, selecting}
use Rattle.nim_program.specs.Program.{Choose, ByLabels}
use Rattle.nim_program.specs.View.{expr_of, if_type, picks_of, pick_labels}
use Rattle.expr_rules.specs.Answers.{node}
use Rattle.expr_parts.proofs.Fields.{if_ok}
use Rattle.expr_parts.proofs.Operands.{picks_before}
use Rattle.expr_parts.proofs.branches.selected_else.Goals as goal

pub returns-in-Ok-clause-expr : goal.returns-in-Ok-clause-expr
returns-in-Ok-clause-expr c = if_ok c.case_of.result c.case_of.ensures.expr (λ e h ts.
    let all = c.args.branches.items in
    h ts
    ∙ ap (Choose (node c.args.number c.args.at) (if_type ts c.args.ty) (ByLabels (pick_labels all)))
    (c.selector_of.ensures ts (picks_of ts all (one_value (expr_of ts c.in-Ok.otherwise.value)))
    ∙ ap (selecting (expr_of ts c.args.selector))
    (ap (λ x. picks_of ts all (one_value (expr_of ts x))) c.in-Ok.ensures.ok ∙ picks_before ts all (one_value (expr_of ts c.args.otherwise)))))
