use Rattle.nim_meaning.proofs.KindLemmas.{body_numbers, kind_found}
use Rattle.nim_meaning.proofs.laws_of_acts.kinds.Goals as goal

pub returns-clause-places : goal.returns-clause-places
returns-clause-places c = body_numbers

pub returns-clause-found : goal.returns-clause-found
returns-clause-found c = kind_found
