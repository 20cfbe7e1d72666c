use Rattle.std.proofs.Common.{refl}
use Rattle.std.specs.Fmt.{digits}
use Rattle.formed_programs.proofs.examples.flat_examples.Goals as goal

pub returns-clause-placing : goal.returns-clause-placing
unfolding digits
returns-clause-placing c = λ plan heap input. refl

pub returns-clause-aiming : goal.returns-clause-aiming
unfolding digits
returns-clause-aiming c = λ plan heap input. refl

pub returns-clause-handing_on : goal.returns-clause-handing_on
unfolding digits
returns-clause-handing_on c = λ plan heap input. refl

pub returns-clause-one_place : goal.returns-clause-one_place
unfolding digits
returns-clause-one_place c = λ plan heap input. refl

pub returns-clause-nesting : goal.returns-clause-nesting
unfolding digits
returns-clause-nesting c = λ plan heap input. refl

pub returns-clause-building : goal.returns-clause-building
unfolding digits
returns-clause-building c = λ plan heap input. refl

pub returns-clause-gathering : goal.returns-clause-gathering
unfolding digits
returns-clause-gathering c = λ plan heap input. refl

pub returns-clause-moving : goal.returns-clause-moving
unfolding digits
returns-clause-moving c = λ plan heap input. refl

pub returns-clause-constants : goal.returns-clause-constants
unfolding digits
returns-clause-constants c = λ plan heap input. refl

pub returns-clause-constant_in_place : goal.returns-clause-constant_in_place
unfolding digits
returns-clause-constant_in_place c = λ plan heap input. refl

pub returns-clause-listing : goal.returns-clause-listing
unfolding digits
returns-clause-listing c = λ plan heap input. refl

pub returns-clause-converting : goal.returns-clause-converting
unfolding digits
returns-clause-converting c = λ plan heap input. refl

pub returns-clause-stopping_early : goal.returns-clause-stopping_early
unfolding digits
returns-clause-stopping_early c = λ plan heap input. refl

pub returns-clause-selecting : goal.returns-clause-selecting
unfolding digits
returns-clause-selecting c = λ plan heap input. refl

pub returns-clause-choosing : goal.returns-clause-choosing
unfolding digits
returns-clause-choosing c = λ plan heap input. refl

pub returns-clause-covering : goal.returns-clause-covering
unfolding digits
returns-clause-covering c = λ plan heap input. refl

pub returns-clause-breaking : goal.returns-clause-breaking
unfolding digits
returns-clause-breaking c = λ plan heap input. refl

pub returns-clause-breaking_on : goal.returns-clause-breaking_on
unfolding digits
returns-clause-breaking_on c = λ plan heap input. refl

pub returns-clause-found_anew : goal.returns-clause-found_anew
unfolding digits
returns-clause-found_anew c = λ plan heap input. refl

pub returns-clause-shortening : goal.returns-clause-shortening
unfolding digits
returns-clause-shortening c = λ plan heap input. refl

pub returns-clause-endless : goal.returns-clause-endless
unfolding digits
returns-clause-endless c = λ plan heap input. refl

pub returns-clause-quitting : goal.returns-clause-quitting
unfolding digits
returns-clause-quitting c = λ plan heap input. refl

pub returns-clause-doubling : goal.returns-clause-doubling
unfolding digits
returns-clause-doubling c = λ plan heap input. refl
