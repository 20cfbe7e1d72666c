use Rattle.holders.proofs.laws.sequences.Goals as goal
use Rattle.holders.proofs.SequenceRows.{adds, pops, sequence_gets_length}
use Rattle.holders.proofs.Answering.{sequence_made}

pub returns-clause-made : goal.returns-clause-made
returns-clause-made c f vs ds bytes world each d = sequence_made f vs ds bytes world each d

pub returns-clause-added : goal.returns-clause-added
returns-clause-added c f x ds l w v bs world y h d strange apart = adds f x ds l w v bs world y.at y.is y.has y.distinct y.apart h d strange apart

pub returns-clause-popped : goal.returns-clause-popped
returns-clause-popped c f n l w v bs world x same = pops f n l w v bs world x.at x.is x.has x.distinct x.apart same

pub returns-clause-length : goal.returns-clause-length
returns-clause-length c f n l w v bs world alone x = sequence_gets_length f alone n l w v bs world x.at x.is x.has x.distinct x.apart
