use Rattle.std.proofs.Common.{ap, ◌∙◌}
use Rattle.nim_tree.specs.Statements.{branches_of}
use Rattle.parse_stmts.proofs.Lists.{one_more_branch, if_ok}
use Rattle.parse_stmts.proofs.block.branches.and_branch.Goals as goal

pub returns-clause-ok : goal.returns-clause-ok
returns-clause-ok c = if_ok c.and_one.result (λ all e. ap branches_of e ∙ one_more_branch _ _) c.and_one.ensures.ok
