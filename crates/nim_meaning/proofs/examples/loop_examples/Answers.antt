use Rattle.std.proofs.Common.{refl}
use Rattle.std.specs.Fmt.{digits}
use Rattle.nim_meaning.proofs.examples.loop_examples.Goals as goal

pub returns-clause-up_to_greatest : goal.returns-clause-up_to_greatest
unfolding digits
returns-clause-up_to_greatest c = record { plain = refl; sees = λ plan heap input. refl }

pub returns-clause-below_last : goal.returns-clause-below_last
unfolding digits
returns-clause-below_last c = record { plain = refl; sees = λ plan heap input. refl }

pub returns-clause-ends_once : goal.returns-clause-ends_once
unfolding digits
returns-clause-ends_once c = record { plain = refl; sees = λ plan heap input. refl }

pub returns-clause-breaking : goal.returns-clause-breaking
unfolding digits
returns-clause-breaking c = record { plain = refl; sees = λ plan heap input. refl }

pub returns-clause-breaking_on : goal.returns-clause-breaking_on
unfolding digits
returns-clause-breaking_on c = record { plain = refl; sees = λ plan heap input. refl }

pub returns-clause-anew_each_turn : goal.returns-clause-anew_each_turn
unfolding digits
returns-clause-anew_each_turn c = record { plain = refl; sees = λ plan heap input. refl }

pub returns-clause-found_anew : goal.returns-clause-found_anew
unfolding digits
returns-clause-found_anew c = record { plain = refl; sees = λ plan heap input. refl }

pub returns-clause-aimed_once : goal.returns-clause-aimed_once
unfolding digits
returns-clause-aimed_once c = record { plain = refl; sees = λ plan heap input. refl }

pub returns-clause-shortening : goal.returns-clause-shortening
unfolding digits
returns-clause-shortening c = record { plain = refl; sees = λ plan heap input. refl }

pub returns-clause-returning : goal.returns-clause-returning
unfolding digits
returns-clause-returning c = record { plain = refl; sees = λ plan heap input. refl }

pub returns-clause-selecting : goal.returns-clause-selecting
unfolding digits
returns-clause-selecting c = record { plain = refl; sees = λ plan heap input. refl }

pub returns-clause-choosing : goal.returns-clause-choosing
unfolding digits
returns-clause-choosing c = record { plain = refl; sees = λ plan heap input. refl }

pub returns-clause-endless : goal.returns-clause-endless
unfolding digits
returns-clause-endless c = record { plain = refl; sees = λ plan heap input. refl }

pub returns-clause-quitting : goal.returns-clause-quitting
unfolding digits
returns-clause-quitting c = record { plain = refl; sees = λ plan heap input. refl }

pub returns-clause-low_bits : goal.returns-clause-low_bits
unfolding digits
returns-clause-low_bits c = record { plain = refl; sees = λ plan heap input. refl }

pub returns-clause-covering : goal.returns-clause-covering
unfolding digits
returns-clause-covering c = record { plain = refl; sees = λ plan heap input. refl }

pub returns-clause-found_anew_on : goal.returns-clause-found_anew_on
unfolding digits
returns-clause-found_anew_on c = record { plain = refl; sees = λ plan heap input. refl }
