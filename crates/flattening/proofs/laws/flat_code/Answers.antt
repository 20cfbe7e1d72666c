use Rattle.flattening.proofs.Programs.{flat_agrees, flat_paced, flat_exact}
use Rattle.flattening.proofs.laws.flat_code.Goals as goal

pub returns-clause-agrees : goal.returns-clause-agrees
returns-clause-agrees c = λ program formed plan heap input sound. flat_agrees program plan formed heap input sound

pub returns-clause-paced : goal.returns-clause-paced
returns-clause-paced c = λ program formed plan heap input sound. flat_paced program plan formed heap input sound

pub returns-clause-exact : goal.returns-clause-exact
returns-clause-exact c = λ program formed plan heap input sound units. flat_exact program plan formed heap input sound units
