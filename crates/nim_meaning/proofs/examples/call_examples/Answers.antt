use Rattle.std.proofs.Common.{refl}
use Rattle.std.specs.Fmt.{digits}
use Rattle.nim_meaning.proofs.examples.call_examples.Goals as goal

pub returns-clause-doubling : goal.returns-clause-doubling
unfolding digits
returns-clause-doubling c = record { plain = refl; sees = λ plan heap input. refl }

pub returns-clause-doubling_on : goal.returns-clause-doubling_on
unfolding digits
returns-clause-doubling_on c = record { plain = refl; sees = λ plan heap input. refl }

pub returns-clause-sinking : goal.returns-clause-sinking
unfolding digits
returns-clause-sinking c = record { plain = refl; sees = λ plan heap input. refl }

pub returns-clause-sinking_on : goal.returns-clause-sinking_on
unfolding digits
returns-clause-sinking_on c = record { plain = refl; sees = λ plan heap input. refl }

pub returns-clause-coming_back : goal.returns-clause-coming_back
unfolding digits
returns-clause-coming_back c = record { plain = refl; sees = λ plan heap input. refl }

pub returns-clause-diving : goal.returns-clause-diving
unfolding digits
returns-clause-diving c = record { plain = refl; sees = λ plan heap input. refl }

pub returns-clause-starting_at_default : goal.returns-clause-starting_at_default
unfolding digits
returns-clause-starting_at_default c = record { plain = refl; sees = λ plan heap input. refl }

pub returns-clause-small : goal.returns-clause-small
unfolding digits
returns-clause-small c = record { plain = refl; works = λ plan heap input. refl }

pub returns-clause-calling_once : goal.returns-clause-calling_once
unfolding digits
returns-clause-calling_once c = record { plain = refl; works = λ plan heap input. refl }

pub returns-clause-choosing_in_turn : goal.returns-clause-choosing_in_turn
unfolding digits
returns-clause-choosing_in_turn c = record { plain = refl; works = λ plan heap input. refl }
