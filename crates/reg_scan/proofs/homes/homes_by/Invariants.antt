use Rattle.reg_scan.specs.Fine.{AreOwn}
use Rattle.reg_scan.proofs.homes.homes_by.Given as goal

-- the homes of the variables so far
abbrev pub invariant-loop-variable : goal.invariant-loop-variable
invariant-loop-variable l = AreOwn l.given l.vars l.variable l.homes
