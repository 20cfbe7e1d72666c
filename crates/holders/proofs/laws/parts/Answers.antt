use Rattle.holders.proofs.laws.parts.Goals as goal
use Rattle.holders.proofs.Leading.{part_of_row, part_of_object, element_of_sequence, what_is_wrapped, leads_further}

pub returns-clause-row : goal.returns-clause-row
returns-clause-row c n i f l w v bs world x le = part_of_row n f l w v bs world x i le

pub returns-clause-object : goal.returns-clause-object
returns-clause-object c fs f i l w v bs world x p = part_of_object fs f l w v bs world x i p

pub returns-clause-element : goal.returns-clause-element
returns-clause-element c f i l w v bs world x le = element_of_sequence f l w v bs world x i le

pub returns-clause-wrapped : goal.returns-clause-wrapped
returns-clause-wrapped c f l w v bs world x = what_is_wrapped f l w v bs world x

pub returns-clause-further : goal.returns-clause-further
returns-clause-further c f g h l m n w u t bs mine inner world a b = leads_further a b
