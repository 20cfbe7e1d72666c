use Rattle.nim_meaning.proofs.LentBlocks.{procedure_reads, region_ends}
use Rattle.nim_meaning.proofs.laws_of_acts.lent.Goals as goal

pub returns-clause-procedure : goal.returns-clause-procedure
returns-clause-procedure c = procedure_reads

pub returns-clause-region : goal.returns-clause-region
returns-clause-region c = region_ends
