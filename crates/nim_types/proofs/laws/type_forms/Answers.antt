use Rattle.nim_types.proofs.Forming.{one_form, the_form, stored}
use Rattle.nim_types.proofs.laws.type_forms.Goals as goal

pub returns-clause-one : goal.returns-clause-one
returns-clause-one c = λ w facts t f g a b. one_form a b

pub returns-clause-computed : goal.returns-clause-computed
returns-clause-computed c = λ facts t f h. the_form h

pub returns-clause-stored : goal.returns-clause-stored
returns-clause-stored c = λ facts t f h. let r = stored h in (r.0, r.1, r.2.size, r.2.hooked)
