use Rattle.holders.proofs.territories.entered.Goals as goal
use Rattle.holders.proofs.Entering.{enters}

pub returns : goal.returns
returns c os fs slots given level n world after t kept below h there = (enters t kept level below n h there).territory
