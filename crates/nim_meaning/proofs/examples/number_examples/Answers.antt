use Rattle.std.proofs.Common.{refl}
use Rattle.std.specs.Fmt.{digits}
use Rattle.nim_meaning.proofs.examples.number_examples.Goals as goal

pub returns-clause-overflowing : goal.returns-clause-overflowing
unfolding digits
returns-clause-overflowing c = record { plain = refl; sees = λ plan heap input. refl }

pub returns-clause-underflowing : goal.returns-clause-underflowing
unfolding digits
returns-clause-underflowing c = record { plain = refl; sees = λ plan heap input. refl }

pub returns-clause-multiplying : goal.returns-clause-multiplying
unfolding digits
returns-clause-multiplying c = record { plain = refl; sees = λ plan heap input. refl }

pub returns-clause-opposite : goal.returns-clause-opposite
unfolding digits
returns-clause-opposite c = record { plain = refl; sees = λ plan heap input. refl }

pub returns-clause-least_div : goal.returns-clause-least_div
unfolding digits
returns-clause-least_div c = record { plain = refl; sees = λ plan heap input. refl }

pub returns-clause-zero_div : goal.returns-clause-zero_div
unfolding digits
returns-clause-zero_div c = record { plain = refl; sees = λ plan heap input. refl }

pub returns-clause-zero_mod : goal.returns-clause-zero_mod
unfolding digits
returns-clause-zero_mod c = record { plain = refl; sees = λ plan heap input. refl }

pub returns-clause-rounding : goal.returns-clause-rounding
unfolding digits
returns-clause-rounding c = record { plain = refl; sees = λ plan heap input. refl }

pub returns-clause-shifting : goal.returns-clause-shifting
unfolding digits
returns-clause-shifting c = record { plain = refl; sees = λ plan heap input. refl }

pub returns-clause-bits : goal.returns-clause-bits
unfolding digits
returns-clause-bits c = record { plain = refl; sees = λ plan heap input. refl }

pub returns-clause-stepping : goal.returns-clause-stepping
unfolding digits
returns-clause-stepping c = record { plain = refl; sees = λ plan heap input. refl }

pub returns-clause-ordering : goal.returns-clause-ordering
unfolding digits
returns-clause-ordering c = record { plain = refl; sees = λ plan heap input. refl }

pub returns-clause-stopping_early : goal.returns-clause-stopping_early
unfolding digits
returns-clause-stopping_early c = record { plain = refl; sees = λ plan heap input. refl }
