use Rattle.std.proofs.Common.{ap, ◌∙◌}
use Rattle.nim_program.specs.Program.{Choose, ByLabels, NoArg}
use Rattle.nim_program.specs.View.{if_type, picks_of, pick_labels}
use Rattle.expr_rules.specs.Answers.{node}
use Rattle.expr_parts.proofs.Fields.{if_ok}
use Rattle.expr_parts.proofs.branches.selected.Goals as goal

pub returns-clause-expr : goal.returns-clause-expr
returns-clause-expr c = if_ok c.case_of.result c.case_of.ensures.expr (λ e h ts.
    let all = c.args.branches.items in
    h ts
    ∙ ap (Choose (node c.args.number c.args.at) (if_type ts c.args.ty) (ByLabels (pick_labels all)))
    (c.selector_of.ensures ts (picks_of ts all NoArg)))
