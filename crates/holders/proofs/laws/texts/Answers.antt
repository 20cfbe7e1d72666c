use Rattle.holders.proofs.laws.texts.Goals as goal
use Rattle.std.proofs.Common.{refl, length}
use Rattle.holders.proofs.TextRows.{text_resized, appends}
use Rattle.holders.proofs.Answering.{text_made, line_goes_into}

pub returns-clause-made : goal.returns-clause-made
returns-clause-made c t world = text_made t world

pub returns-clause-resized : goal.returns-clause-resized
returns-clause-resized c t l w v bs world x = text_resized (length t) t refl l w v bs world x.at x.is x.has x.apart

pub returns-clause-appended : goal.returns-clause-appended
returns-clause-appended c more l w v bs world x = appends more l w v bs world x.at x.is x.has x.apart

pub returns-clause-line : goal.returns-clause-line
returns-clause-line c input l w v bs world x = line_goes_into input l w v bs world x.at x.is x.has x.distinct x.apart
