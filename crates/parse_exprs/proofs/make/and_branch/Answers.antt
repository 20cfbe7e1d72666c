use Rattle.std.proofs.Common.{ap, ◌∙◌}
use Rattle.nim_tree.specs.Terms.{choices_of}
use Rattle.parse_exprs.proofs.Making.{and_branch_last}
use Rattle.parse_exprs.proofs.make.and_branch.Goals as goal

pub returns-clause-branches : goal.returns-clause-branches
returns-clause-branches c = ap choices_of c.in_ok-push.ensures.items ∙ and_branch_last c.args.some.branches.items
    (record { at = c.args.at; tests = c.args.last.tests; value = c.args.last.value })
