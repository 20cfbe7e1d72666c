use Rattle.nim_program.specs.Folds.{lists, node_numbers, total}
use Rattle.holders.proofs.territories.expressions.Goals as goal
use Rattle.holders.proofs.WholeExpressions.{value_comes, path_comes}
use Rattle.holders.proofs.ScenesOfBodies.{has_scene}
use Rattle.holders.proofs.InBodies.{do_comes}
use Rattle.holders.proofs.NodesRise.{value_distinct, rises}

pub returns-clause-value : goal.returns-clause-value
returns-clause-value c here scope limits root first places os sorted e how typed asked d =
    value_comes here scope limits root first places os sorted e how typed asked d

pub returns-clause-path : goal.returns-clause-path
returns-clause-path c here scope limits root first places os sorted path typed asked d =
    path_comes here scope limits root first places os sorted path typed asked d

pub returns-clause-scene : goal.returns-clause-scene
returns-clause-scene c here scope limits ls gs world names globals = has_scene here scope limits names globals

pub returns-clause-statement : goal.returns-clause-statement
returns-clause-statement c here scope limits root own_places own_nodes first places ks gs nodes old start value so d unhooked mine free outside own deepest s
    body scene =
    do_comes here scope limits root own_places own_nodes first places ks gs nodes old start value so d unhooked mine free outside own deepest s body scene

pub returns-clause-distinct : goal.returns-clause-distinct
returns-clause-distinct c h from to e typed r = value_distinct h from e typed (rises from to (total lists node_numbers e) r)
