use Rattle.goto_exceptions.proofs.Branched.{same, same_within}
use Rattle.goto_exceptions.proofs.laws.block_codes.Goals as goal

pub returns-clause-lines : goal.returns-clause-lines
returns-clause-lines c = same

pub returns-clause-units : goal.returns-clause-units
returns-clause-units c = same_within
