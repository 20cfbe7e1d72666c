use Rattle.nim_meaning.proofs.RunPrograms.{value_goes, block_goes, procedure_goes, program_goes}
use Rattle.nim_meaning.proofs.laws_of_acts.runs.Goals as goal

pub returns-clause-value : goal.returns-clause-value
returns-clause-value c = λ raises program plan left level body how to e rest exits s h plain.
    value_goes raises program plan h left level body how to e rest exits s plain

pub returns-clause-block : goal.returns-clause-block
returns-clause-block c = λ raises program plan left level body b exits s h plain. block_goes raises program plan h left level body b exits s plain

pub returns-clause-procedure : goal.returns-clause-procedure
returns-clause-procedure c = λ raises program plan proc p body left level s h e f. procedure_goes raises program plan h proc p body left level s e f

pub returns-clause-start : goal.returns-clause-start
returns-clause-start c = λ raises program plan heap input units h. program_goes raises program plan h heap input units
