use Rattle.holders.proofs.territories.brought_back.Goals as goal
use Rattle.holders.proofs.CameBack.{call_gives}

pub returns : goal.returns
returns c os ms world t w f given old v after strange clear into sum h = call_gives t w given old strange clear into sum h
