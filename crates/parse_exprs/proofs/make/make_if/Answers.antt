use Rattle.std.proofs.Common.{ap, ◌∙◌}
use Rattle.nim_tree.specs.Terms.{term_of, choices_of, if_term}
use Rattle.nim_tree.proofs.ForCallers.{chosen}
use Rattle.parse_exprs.proofs.make.make_if.Goals as goal

pub returns-clause-ok : goal.returns-clause-ok
returns-clause-ok c = chosen c.args.at c.args.branches c.in_ok-otherwise.otherwise ∙ ap (λ a. if_term c.args.at (choices_of c.args.branches.items) (term_of a))
    c.in_ok-otherwise.ensures.ok
