use Rattle.holders.proofs.laws.deeds.Goals as goal
use Rattle.holders.proofs.Guards.{seen_from, full_from, read_at}
use Rattle.holders.proofs.SureRuns.{sure_runs}

pub returns-clause-carried : goal.returns-clause-carried
returns-clause-carried c deed s h = sure_runs deed (λ x after. Unit {0}) s h

pub returns-clause-seen : goal.returns-clause-seen
returns-clause-seen c f l w v bs world x = seen_from (read_at x.at x.is) tt x.has

pub returns-clause-full : goal.returns-clause-full
returns-clause-full c f l w v bs world x = full_from (read_at x.at x.is) tt x.has
