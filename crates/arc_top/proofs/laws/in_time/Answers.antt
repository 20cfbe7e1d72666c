use Rattle.arc_top.proofs.InTime.{spent_in_time}
use Rattle.arc_top.proofs.laws.in_time.Goals as goal

pub returns : goal.returns
returns c = spent_in_time c.machines.ensures.steady c.runs.ensures.saw
