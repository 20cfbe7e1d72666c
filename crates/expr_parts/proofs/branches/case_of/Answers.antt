use Rattle.std.proofs.Common.{ap, ◌∙◌}
use Rattle.std.specs.Prelude.{option_map}
use Rattle.nim_program.specs.Program.{Choose, ByLabels}
use Rattle.nim_program.specs.View.{if_type, if_value, operand_before, picks_of, pick_labels}
use Rattle.expr_rules.specs.Answers.{node}
use Rattle.nim_program.proofs.ForCallers as rows
use Rattle.expr_parts.proofs.branches.case_of.Goals as goal

pub returns-clause-expr : goal.returns-clause-expr
returns-clause-expr c = λ ts.
    let n = node c.args.number c.args.at in
    let all = c.args.branches.items in
    rows.selected ts n c.args.ty c.in_ok-selector.selector c.args.branches c.args.otherwise
    ∙ ap
    (λ a. Choose n (if_type ts c.args.ty) (ByLabels (pick_labels all))
    (operand_before ts a (picks_of ts all (if_value ts (option_map (λ v. v.value) c.args.otherwise)))))
    c.in_ok-selector.ensures.ok
