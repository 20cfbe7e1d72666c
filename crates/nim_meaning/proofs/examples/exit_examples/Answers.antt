use Rattle.std.proofs.Common.{refl}
use Rattle.nim_meaning.proofs.examples.exit_examples.Goals as goal

pub returns-clause-passing : goal.returns-clause-passing
returns-clause-passing c = λ plan. refl

pub returns-clause-declaring_last : goal.returns-clause-declaring_last
returns-clause-declaring_last c = λ plan. refl

pub returns-clause-choosing_last : goal.returns-clause-choosing_last
returns-clause-choosing_last c = λ plan. refl

pub returns-clause-looping_last : goal.returns-clause-looping_last
returns-clause-looping_last c = λ plan. refl

pub returns-clause-breaking : goal.returns-clause-breaking
returns-clause-breaking c = λ plan. refl

pub returns-clause-continuing : goal.returns-clause-continuing
returns-clause-continuing c = λ plan. refl

pub returns-clause-returning : goal.returns-clause-returning
returns-clause-returning c = λ plan. refl

pub returns-clause-returning_far : goal.returns-clause-returning_far
returns-clause-returning_far c = λ plan. refl
