use Rattle.arc_top.proofs.report.put_line.Goals as goal

pub returns-in-Usage-clause-said : goal.returns-in-Usage-clause-said
returns-in-Usage-clause-said g c = rw c.in-Usage.is c.put_pieces.ensures.said

pub returns-in-NoFile-clause-said : goal.returns-in-NoFile-clause-said
returns-in-NoFile-clause-said g c = rw (c.in-NoFile.is, ← c.as_bytes.ensures) c.put_pieces-in-NoFile.ensures.said

pub returns-in-TooLong-clause-said : goal.returns-in-TooLong-clause-said
returns-in-TooLong-clause-said g c = rw (c.in-TooLong.is, ← c.as_bytes-in-TooLong.ensures) c.put_pieces-in-TooLong.ensures.said

pub returns-in-ReadFault-clause-said : goal.returns-in-ReadFault-clause-said
returns-in-ReadFault-clause-said g c = rw c.in-ReadFault.is c.put_pieces-in-ReadFault.ensures.said

pub returns-in-StoreFault-clause-said : goal.returns-in-StoreFault-clause-said
returns-in-StoreFault-clause-said g c = rw c.in-StoreFault.is c.put_pieces-in-StoreFault.ensures.said

pub returns-in-Memory-clause-said : goal.returns-in-Memory-clause-said
returns-in-Memory-clause-said g c = rw c.in-Memory.is c.put_pieces-in-Memory.ensures.said

pub returns-in-StepsSpent-clause-said : goal.returns-in-StepsSpent-clause-said
returns-in-StepsSpent-clause-said g c = rw c.in-StepsSpent.is c.put_pieces-in-StepsSpent.ensures.said
