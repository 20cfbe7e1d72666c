use Rattle.lending_laws.proofs.ApartPrograms.{lent_apart}
use Rattle.lending_laws.proofs.laws.lent_apart.Goals as goal

pub returns : goal.returns
returns c = λ types all program h. lent_apart c.calls_computed.ensures.calls c.names_found.ensures types all program h
