use Rattle.nim_meaning.proofs.BodyMarks.{value_once, block_once, procedure_once}
use Rattle.nim_meaning.proofs.DeedLemmas.{one_act_each}
use Rattle.nim_meaning.proofs.laws_of_acts.points.Goals as goal

pub returns-clause-value : goal.returns-clause-value
returns-clause-value c = value_once

pub returns-clause-block : goal.returns-clause-block
returns-clause-block c = block_once

pub returns-clause-procedure : goal.returns-clause-procedure
returns-clause-procedure c = procedure_once

pub returns-clause-deed : goal.returns-clause-deed
returns-clause-deed c = one_act_each
