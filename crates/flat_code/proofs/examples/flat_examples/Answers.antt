use Rattle.std.proofs.Common.{refl}
use Rattle.std.specs.Fmt.{digits}
use Rattle.flat_code.proofs.examples.flat_examples.Goals as goal

pub returns-clause-summing : goal.returns-clause-summing
returns-clause-summing c = refl

pub returns-clause-summing_below : goal.returns-clause-summing_below
returns-clause-summing_below c = refl

pub returns-clause-summing_none : goal.returns-clause-summing_none
returns-clause-summing_none c = refl

pub returns-clause-summing_owned : goal.returns-clause-summing_owned
returns-clause-summing_owned c = refl

pub returns-clause-summing_blocks : goal.returns-clause-summing_blocks
returns-clause-summing_blocks c = refl

pub returns-clause-summing_nothing : goal.returns-clause-summing_nothing
returns-clause-summing_nothing c = refl

pub returns-clause-bumping : goal.returns-clause-bumping
unfolding digits
returns-clause-bumping c = refl

pub returns-clause-bumping_outside : goal.returns-clause-bumping_outside
unfolding digits
returns-clause-bumping_outside c = refl

pub returns-clause-standing : goal.returns-clause-standing
unfolding digits
returns-clause-standing c = refl

pub returns-clause-standing_outside : goal.returns-clause-standing_outside
returns-clause-standing_outside c = refl

pub returns-clause-filled : goal.returns-clause-filled
unfolding digits
returns-clause-filled c = refl

pub returns-clause-unset : goal.returns-clause-unset
returns-clause-unset c = refl

pub returns-clause-unfilled : goal.returns-clause-unfilled
returns-clause-unfilled c = refl

pub returns-clause-unlabelled : goal.returns-clause-unlabelled
returns-clause-unlabelled c = refl

pub returns-clause-jumping_back : goal.returns-clause-jumping_back
returns-clause-jumping_back c = refl

pub returns-clause-turning : goal.returns-clause-turning
returns-clause-turning c = refl

pub returns-clause-running_out : goal.returns-clause-running_out
returns-clause-running_out c = refl

pub returns-clause-next_of_last : goal.returns-clause-next_of_last
returns-clause-next_of_last c = refl

pub returns-clause-no_element : goal.returns-clause-no_element
returns-clause-no_element c = refl
