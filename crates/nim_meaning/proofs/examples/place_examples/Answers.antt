use Rattle.std.proofs.Common.{refl}
use Rattle.std.specs.Fmt.{digits}
use Rattle.nim_meaning.proofs.examples.place_examples.Goals as goal

pub returns-clause-placing : goal.returns-clause-placing
unfolding digits
returns-clause-placing c = record { plain = refl; sees = λ plan heap input. refl }

pub returns-clause-reading_at_once : goal.returns-clause-reading_at_once
unfolding digits
returns-clause-reading_at_once c = record { plain = refl; sees = λ plan heap input. refl }

pub returns-clause-value_before_place : goal.returns-clause-value_before_place
unfolding digits
returns-clause-value_before_place c = record { plain = refl; sees = λ plan heap input. refl }

pub returns-clause-index_before_value : goal.returns-clause-index_before_value
unfolding digits
returns-clause-index_before_value c = record { plain = refl; sees = λ plan heap input. refl }

pub returns-clause-above_array : goal.returns-clause-above_array
unfolding digits
returns-clause-above_array c = record { plain = refl; sees = λ plan heap input. refl }

pub returns-clause-below_array : goal.returns-clause-below_array
unfolding digits
returns-clause-below_array c = record { plain = refl; sees = λ plan heap input. refl }

pub returns-clause-argument_before_place : goal.returns-clause-argument_before_place
unfolding digits
returns-clause-argument_before_place c = record { plain = refl; sees = λ plan heap input. refl }

pub returns-clause-aiming_in_turn : goal.returns-clause-aiming_in_turn
unfolding digits
returns-clause-aiming_in_turn c = record { plain = refl; sees = λ plan heap input. refl }

pub returns-clause-handing_on : goal.returns-clause-handing_on
unfolding digits
returns-clause-handing_on c = record { plain = refl; sees = λ plan heap input. refl }

pub returns-clause-one_place : goal.returns-clause-one_place
unfolding digits
returns-clause-one_place c = record { plain = refl; sees = λ plan heap input. refl }

pub returns-clause-copying : goal.returns-clause-copying
unfolding digits
returns-clause-copying c = record { plain = refl; sees = λ plan heap input. refl }

pub returns-clause-nesting : goal.returns-clause-nesting
unfolding digits
returns-clause-nesting c = record { plain = refl; sees = λ plan heap input. refl }

pub returns-clause-building : goal.returns-clause-building
unfolding digits
returns-clause-building c = record { plain = refl; sees = λ plan heap input. refl }

pub returns-clause-moving : goal.returns-clause-moving
unfolding digits
returns-clause-moving c = record { plain = refl; sees = λ plan heap input. refl }

pub returns-clause-constants : goal.returns-clause-constants
unfolding digits
returns-clause-constants c = record { plain = refl; sees = λ plan heap input. refl }

pub returns-clause-to_itself : goal.returns-clause-to_itself
unfolding digits
returns-clause-to_itself c = record { plain = refl; sees = λ plan heap input. refl }

pub returns-clause-constant_in_place : goal.returns-clause-constant_in_place
unfolding digits
returns-clause-constant_in_place c = record { plain = refl; works = λ plan heap input. refl }
