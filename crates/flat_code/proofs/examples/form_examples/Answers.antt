use Rattle.std.proofs.Common.{refl}
use Rattle.flat_code.proofs.examples.form_examples.Goals as goal

pub returns-clause-summing : goal.returns-clause-summing
returns-clause-summing c = refl

pub returns-clause-bumping : goal.returns-clause-bumping
returns-clause-bumping c = refl

pub returns-clause-place_written : goal.returns-clause-place_written
returns-clause-place_written c = refl

pub returns-clause-fresh_written : goal.returns-clause-fresh_written
returns-clause-fresh_written c = refl

pub returns-clause-standing : goal.returns-clause-standing
returns-clause-standing c = refl

pub returns-clause-standing_written : goal.returns-clause-standing_written
returns-clause-standing_written c = refl

pub returns-clause-standing_as_place : goal.returns-clause-standing_as_place
returns-clause-standing_as_place c = refl

pub returns-clause-bumping_value : goal.returns-clause-bumping_value
returns-clause-bumping_value c = refl

pub returns-clause-int_as_char : goal.returns-clause-int_as_char
returns-clause-int_as_char c = refl

pub returns-clause-int_decides : goal.returns-clause-int_decides
returns-clause-int_decides c = refl

pub returns-clause-no_result : goal.returns-clause-no_result
returns-clause-no_result c = refl

pub returns-clause-summing_leads : goal.returns-clause-summing_leads
returns-clause-summing_leads c = refl

pub returns-clause-turning_leads : goal.returns-clause-turning_leads
returns-clause-turning_leads c = refl

pub returns-clause-unlabelled : goal.returns-clause-unlabelled
returns-clause-unlabelled c = refl

pub returns-clause-jumping_back : goal.returns-clause-jumping_back
returns-clause-jumping_back c = refl

pub returns-clause-running_out : goal.returns-clause-running_out
returns-clause-running_out c = refl
