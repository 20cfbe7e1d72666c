use Rattle.std.proofs.Common.{refl}
use Rattle.std.specs.Fmt.{digits}
use Rattle.nim_meaning.proofs.examples.text_examples.Goals as goal

pub returns-clause-writing : goal.returns-clause-writing
unfolding digits
returns-clause-writing c = record { plain = refl; sees = λ plan heap input. refl }

pub returns-clause-converting : goal.returns-clause-converting
unfolding digits
returns-clause-converting c = record { plain = refl; sees = λ plan heap input. refl }

pub returns-clause-above_char : goal.returns-clause-above_char
unfolding digits
returns-clause-above_char c = record { plain = refl; sees = λ plan heap input. refl }

pub returns-clause-below_char : goal.returns-clause-below_char
unfolding digits
returns-clause-below_char c = record { plain = refl; sees = λ plan heap input. refl }

pub returns-clause-all_first : goal.returns-clause-all_first
unfolding digits
returns-clause-all_first c = record { plain = refl; sees = λ plan heap input. refl }
