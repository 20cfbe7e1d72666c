use Rattle.std.proofs.Common.{ap, ◌∙◌}
use Rattle.nim_tree.specs.Terms.{term_of, choices_of, case_else}
use Rattle.nim_tree.proofs.ForCallers.{selected_else}
use Rattle.parse_exprs.proofs.make.make_case_else.Goals as goal

pub returns-clause-ok : goal.returns-clause-ok
returns-clause-ok c = selected_else c.args.at c.args.selector c.args.branches c.in_ok-otherwise.otherwise
    ∙ ap (λ b. case_else c.args.at (term_of c.args.selector.value) (choices_of c.args.branches.items) (term_of b)) c.in_ok-otherwise.ensures.ok
