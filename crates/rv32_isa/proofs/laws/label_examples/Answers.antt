use Rattle.std.proofs.Common.{refl}
use Rattle.rv32_isa.specs.LabelsMeaning.{start}
use Rattle.rv32_isa.proofs.laws.label_examples.Goals as goal

pub returns-clause-calling : goal.returns-clause-calling
unfolding start
returns-clause-calling c = refl

pub returns-clause-numbers : goal.returns-clause-numbers
returns-clause-numbers c = refl

pub returns-clause-lost : goal.returns-clause-lost
unfolding start
returns-clause-lost c = refl

pub returns-clause-curious : goal.returns-clause-curious
unfolding start
returns-clause-curious c = refl

pub returns-clause-placed : goal.returns-clause-placed
unfolding start
returns-clause-placed c = refl
