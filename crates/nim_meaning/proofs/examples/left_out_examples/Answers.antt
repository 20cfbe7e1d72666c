use Rattle.std.proofs.Common.{refl}
use Rattle.nim_meaning.proofs.examples.left_out_examples.Goals as goal

pub returns-clause-discarding : goal.returns-clause-discarding
returns-clause-discarding c = refl

pub returns-clause-showing : goal.returns-clause-showing
returns-clause-showing c = refl

pub returns-clause-comparing : goal.returns-clause-comparing
returns-clause-comparing c = refl

pub returns-clause-case_of_text : goal.returns-clause-case_of_text
returns-clause-case_of_text c = refl

pub returns-clause-branching : goal.returns-clause-branching
returns-clause-branching c = refl

pub returns-clause-declaring : goal.returns-clause-declaring
returns-clause-declaring c = refl

pub returns-clause-empty : goal.returns-clause-empty
returns-clause-empty c = refl

pub returns-clause-going_over : goal.returns-clause-going_over
returns-clause-going_over c = refl

pub returns-clause-measuring : goal.returns-clause-measuring
returns-clause-measuring c = refl

pub returns-clause-indexing : goal.returns-clause-indexing
returns-clause-indexing c = refl

pub returns-clause-swapping : goal.returns-clause-swapping
returns-clause-swapping c = refl

pub returns-clause-adding : goal.returns-clause-adding
returns-clause-adding c = refl

pub returns-clause-reading : goal.returns-clause-reading
returns-clause-reading c = refl

pub returns-clause-calling : goal.returns-clause-calling
returns-clause-calling c = refl

pub returns-clause-calling_with_types : goal.returns-clause-calling_with_types
returns-clause-calling_with_types c = refl

pub returns-clause-discarding_nil : goal.returns-clause-discarding_nil
returns-clause-discarding_nil c = refl

pub returns-clause-asking_nil : goal.returns-clause-asking_nil
returns-clause-asking_nil c = refl

pub returns-clause-building : goal.returns-clause-building
returns-clause-building c = refl

pub returns-clause-leading : goal.returns-clause-leading
returns-clause-leading c = refl

pub returns-clause-raising : goal.returns-clause-raising
returns-clause-raising c = refl

pub returns-clause-trying : goal.returns-clause-trying
returns-clause-trying c = refl

pub returns-clause-deferring : goal.returns-clause-deferring
returns-clause-deferring c = refl

pub returns-clause-destroying : goal.returns-clause-destroying
returns-clause-destroying c = refl

pub returns-clause-lending : goal.returns-clause-lending
returns-clause-lending c = refl

pub returns-clause-before_start : goal.returns-clause-before_start
returns-clause-before_start c = refl

pub returns-clause-behind_start : goal.returns-clause-behind_start
returns-clause-behind_start c = refl

pub returns-clause-taking : goal.returns-clause-taking
returns-clause-taking c = refl

pub returns-clause-giving : goal.returns-clause-giving
returns-clause-giving c = refl

pub returns-clause-comparing_texts : goal.returns-clause-comparing_texts
returns-clause-comparing_texts c = refl

pub returns-clause-reading_into : goal.returns-clause-reading_into
returns-clause-reading_into c = refl
