use Rattle.nim_meaning.proofs.ScopeLemmas.{scope_left_once, result_left_once}
use Rattle.nim_meaning.proofs.laws_of_acts.exits.Goals as goal

pub returns-clause-scope : goal.returns-clause-scope
returns-clause-scope c = scope_left_once

pub returns-clause-result : goal.returns-clause-result
returns-clause-result c = result_left_once
