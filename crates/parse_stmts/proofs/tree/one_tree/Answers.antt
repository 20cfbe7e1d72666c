use Rattle.parse_stmts.proofs.Verdicts.{module_once}
use Rattle.parse_stmts.proofs.tree.one_tree.Goals as goal

pub returns : goal.returns
returns c = λ x tokens t u d e. module_once d e
