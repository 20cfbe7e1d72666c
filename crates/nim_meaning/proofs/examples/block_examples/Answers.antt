use Rattle.std.proofs.Common.{refl}
use Rattle.std.specs.Fmt.{digits}
use Rattle.nim_meaning.proofs.examples.block_examples.Goals as goal

pub returns-clause-two_lists : goal.returns-clause-two_lists
unfolding digits
returns-clause-two_lists c = record { sees = refl; happens = refl; demands = refl }

pub returns-clause-no_label_fits : goal.returns-clause-no_label_fits
unfolding digits
returns-clause-no_label_fits c = record { sees = refl; happens = refl; demands = refl }

pub returns-clause-filling_up : goal.returns-clause-filling_up
unfolding digits
returns-clause-filling_up c = record { sees = refl; happens = refl; demands = refl }

pub returns-clause-lending : goal.returns-clause-lending
unfolding digits
returns-clause-lending c = record { sees = refl; happens = refl; demands = refl }

pub returns-clause-giving_back : goal.returns-clause-giving_back
unfolding digits
returns-clause-giving_back c = record { sees = refl; happens = refl; demands = refl }

pub returns-clause-assigning : goal.returns-clause-assigning
unfolding digits
returns-clause-assigning c = record { sees = refl; happens = refl; demands = refl }

pub returns-clause-joining : goal.returns-clause-joining
unfolding digits
returns-clause-joining c = record { sees = refl; happens = refl; demands = refl }

pub returns-clause-part_by_part : goal.returns-clause-part_by_part
unfolding digits
returns-clause-part_by_part c = record { sees = refl; happens = refl; demands = refl }

pub returns-clause-part_by_part_short : goal.returns-clause-part_by_part_short
unfolding digits
returns-clause-part_by_part_short c = record { sees = refl; happens = refl; demands = refl }

pub returns-clause-longer_in_turn : goal.returns-clause-longer_in_turn
unfolding digits
returns-clause-longer_in_turn c = record { sees = refl; happens = refl; demands = refl }

pub returns-clause-fresh_head : goal.returns-clause-fresh_head
unfolding digits
returns-clause-fresh_head c = record { sees = refl; happens = refl; demands = refl }

pub returns-clause-leaving_scopes : goal.returns-clause-leaving_scopes
unfolding digits
returns-clause-leaving_scopes c = record { sees = refl; happens = refl; demands = refl }

pub returns-clause-into_block : goal.returns-clause-into_block
unfolding digits
returns-clause-into_block c = record { sees = refl; happens = refl; demands = refl }

pub returns-clause-lengths : goal.returns-clause-lengths
unfolding digits
returns-clause-lengths c = record { sees = refl; happens = refl; demands = refl }

pub returns-clause-characters : goal.returns-clause-characters
unfolding digits
returns-clause-characters c = record { sees = refl; happens = refl; demands = refl }

pub returns-clause-reading_lines : goal.returns-clause-reading_lines
unfolding digits
returns-clause-reading_lines c = record { sees = refl; happens = refl; demands = refl }

pub returns-clause-constants : goal.returns-clause-constants
unfolding digits
returns-clause-constants c = record { sees = refl; happens = refl; demands = refl }

pub returns-clause-branches : goal.returns-clause-branches
unfolding digits
returns-clause-branches c = record { sees = refl; happens = refl; demands = refl }

pub returns-clause-nested : goal.returns-clause-nested
unfolding digits
returns-clause-nested c = record { sees = refl; happens = refl; demands = refl }
