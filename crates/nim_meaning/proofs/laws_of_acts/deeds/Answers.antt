use Rattle.nim_meaning.proofs.RunPrograms.{value_does, block_does, procedure_does, start_does}
use Rattle.nim_meaning.proofs.laws_of_acts.deeds.Goals as goal

pub returns-clause-value : goal.returns-clause-value
returns-clause-value c = λ raises program plan left level body how to e rest exits plain.
    value_does raises program plan left level body how to e rest exits plain

pub returns-clause-block : goal.returns-clause-block
returns-clause-block c = λ raises program plan left level body b exits plain. block_does raises program plan left level body b exits plain

pub returns-clause-procedure : goal.returns-clause-procedure
returns-clause-procedure c = λ raises program plan proc p body left level h e f. procedure_does raises program plan h proc p body left level e f

pub returns-clause-start : goal.returns-clause-start
returns-clause-start c = λ raises program plan h. start_does raises program plan h
