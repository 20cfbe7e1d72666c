use Rattle.parse_decls.proofs.Deciding.{names_end, definitions_end, definition_blocks_end, type_declarations_end, heads_end}
use Rattle.parse_decls.proofs.total.declarations_end.Goals as goal

pub returns-clause-names : goal.returns-clause-names
returns-clause-names c = names_end

pub returns-clause-definitions : goal.returns-clause-definitions
returns-clause-definitions c = definitions_end

pub returns-clause-blocks : goal.returns-clause-blocks
returns-clause-blocks c = definition_blocks_end

pub returns-clause-declared : goal.returns-clause-declared
returns-clause-declared c = type_declarations_end

pub returns-clause-heads : goal.returns-clause-heads
returns-clause-heads c = heads_end
