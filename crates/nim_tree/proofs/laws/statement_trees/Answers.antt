use Rattle.nim_tree.proofs.StmtRows.{conditional, selected, repeated, counted, tried, deferred, proclaimed}
use Rattle.nim_tree.proofs.laws.statement_trees.Goals as goal

pub returns-clause-conditional : goal.returns-clause-conditional
returns-clause-conditional c = conditional

pub returns-clause-selected : goal.returns-clause-selected
returns-clause-selected c = selected

pub returns-clause-repeated : goal.returns-clause-repeated
returns-clause-repeated c = repeated

pub returns-clause-counted : goal.returns-clause-counted
returns-clause-counted c = counted

pub returns-clause-tried : goal.returns-clause-tried
returns-clause-tried c = tried

pub returns-clause-deferred : goal.returns-clause-deferred
returns-clause-deferred c = deferred

pub returns-clause-proclaimed : goal.returns-clause-proclaimed
returns-clause-proclaimed c = proclaimed
