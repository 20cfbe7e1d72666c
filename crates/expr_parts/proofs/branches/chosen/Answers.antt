use Rattle.std.proofs.Common.{ap, ◌∙◌}
use Rattle.nim_program.specs.Nodes.{one_value}
use Rattle.nim_program.specs.Program.{Choose, ByConditions}
use Rattle.nim_program.specs.View.{expr_of, if_type, choices_of}
use Rattle.expr_rules.specs.Answers.{node}
use Rattle.nim_program.proofs.ForCallers as rows
use Rattle.expr_parts.proofs.Operands.{choices_before}
use Rattle.expr_parts.proofs.branches.chosen.Goals as goal

pub returns-clause-expr : goal.returns-clause-expr
returns-clause-expr c = λ ts.
    let n = node c.args.number c.args.at in
    let all = c.args.branches.items in
    rows.chosen ts n c.args.ty c.args.branches c.in_ok-otherwise.otherwise
    ∙ ap (Choose n (if_type ts c.args.ty) ByConditions)
    (ap (λ e. choices_of ts all (one_value (expr_of ts e))) c.in_ok-otherwise.ensures.ok
    ∙ choices_before ts all (one_value (expr_of ts c.args.otherwise)))
