use Rattle.holders.proofs.laws.walks.Goals as goal
use Rattle.holders.proofs.Owning.{from_full}
use Rattle.holders.proofs.Ending.{ends}
use Rattle.holders.proofs.UnderWay.{gives_up, copy_given}
use Rattle.holders.proofs.Assigning.{replaces, assigns_self}
use Rattle.holders.proofs.AssigningBeside.{assigns_beside}
use Rattle.holders.proofs.Answering.{exchanges}

pub returns-clause-ends : goal.returns-clause-ends
returns-clause-ends c f l w v bs world x = ends f l w v bs world x.at x.is (from_full x.has) x.distinct x.apart

pub returns-clause-given_up : goal.returns-clause-given_up
returns-clause-given_up c f v bs world h d = gives_up f v bs world (from_full h) d

pub returns-clause-copied : goal.returns-clause-copied
returns-clause-copied c f from u v bs world source h = copy_given f from u v bs world source h

pub returns-clause-constant : goal.returns-clause-constant
returns-clause-constant c f v bs world h = from_full h

pub returns-clause-replaced : goal.returns-clause-replaced
returns-clause-replaced c f l w v x old new world y h d strange apart =
    replaces f l w v x old new world y.at y.is y.has h y.distinct d (λ k m n. strange k n m) y.apart apart

pub returns-clause-itself : goal.returns-clause-itself
returns-clause-itself c f l w v bs world x = assigns_self f l w v bs world x.at x.is x.has x.distinct x.apart

pub returns-clause-beside : goal.returns-clause-beside
returns-clause-beside c f to from w u v0 v old bs world x source h b =
    assigns_beside f to from w u v0 v old bs world x.at x.is x.has x.distinct x.apart source h b

pub returns-clause-exchanged : goal.returns-clause-exchanged
returns-clause-exchanged c f l w v x old new world y h d apart = exchanges f l w v x old new world y.at y.is y.has h d apart
