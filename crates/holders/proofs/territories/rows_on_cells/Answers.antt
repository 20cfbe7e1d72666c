use Rattle.holders.proofs.territories.rows_on_cells.Goals as goal
use Rattle.holders.proofs.Pairs.{copies_over, swaps}
use Rattle.holders.proofs.Operations.{pops_element, assigns_copy}
use Rattle.holders.proofs.Rows.{copies_out, text_comes, sequence_comes, takes_value, appends_to, reads_line, sets_length, adds_to, gives_away}

pub returns-clause-copied : goal.returns-clause-copied
returns-clause-copied c os f l world t r = copies_out t r

pub returns-clause-text : goal.returns-clause-text
returns-clause-text c os text world t = text_comes t text

pub returns-clause-sequence : goal.returns-clause-sequence
returns-clause-sequence c os f vs ds n world t each d far clear = sequence_comes t f vs ds n each d far clear

pub returns-clause-copies_over : goal.returns-clause-copies_over
returns-clause-copies_over c os f to from world t a b = copies_over t a b

pub returns-clause-takes : goal.returns-clause-takes
returns-clause-takes c os f x l world t a under = takes_value t a under

pub returns-clause-swapped : goal.returns-clause-swapped
returns-clause-swapped c os f l m world t a b = swaps t a b

pub returns-clause-appended : goal.returns-clause-appended
returns-clause-appended c os more l world t a = appends_to t more a

pub returns-clause-line : goal.returns-clause-line
returns-clause-line c os input l world t a = reads_line t input a

pub returns-clause-length : goal.returns-clause-length
returns-clause-length c os f n l world t simple a = sets_length t simple n a

pub returns-clause-added : goal.returns-clause-added
returns-clause-added c os f x l world t a under = adds_to t a under

pub returns-clause-away : goal.returns-clause-away
returns-clause-away c os f x l world t a h = gives_away t a h

pub returns-clause-popped : goal.returns-clause-popped
returns-clause-popped c os f l world t a = pops_element t a

pub returns-clause-assigned : goal.returns-clause-assigned
returns-clause-assigned c os may root steps f to from world t is_hooked a found = assigns_copy t is_hooked a found
