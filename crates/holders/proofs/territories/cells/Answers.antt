use Rattle.holders.proofs.territories.cells.Goals as goal
use Rattle.holders.proofs.Working.{works_first, works_front}
use Rattle.holders.proofs.Openings.{works_open}
use Rattle.holders.proofs.Separating.{separated, differ_part}

pub returns-clause-alone : goal.returns-clause-alone
returns-clause-alone c os qs world t = works_first os qs t

pub returns-clause-in_front : goal.returns-clause-in_front
returns-clause-in_front c os o i world t = works_front i t

pub returns-clause-opened : goal.returns-clause-opened
returns-clause-opened c os o i fs from world t opens = works_open t i opens

pub returns-clause-separated : goal.returns-clause-separated
returns-clause-separated c os targets n world t chains part = separated n t chains part

pub returns-clause-fields : goal.returns-clause-fields
returns-clause-fields c a b path other d g h = differ_part d g h
