use Rattle.parse_decls.proofs.Deciding.{names_decided, definitions_decided, definition_blocks_decided, type_declarations_decided, heads_decided}
use Rattle.parse_decls.proofs.total.declaration_or_fault.Goals as goal

pub returns-clause-names : goal.returns-clause-names
returns-clause-names c = names_decided

pub returns-clause-definitions : goal.returns-clause-definitions
returns-clause-definitions c = definitions_decided

pub returns-clause-blocks : goal.returns-clause-blocks
returns-clause-blocks c = definition_blocks_decided

pub returns-clause-declared : goal.returns-clause-declared
returns-clause-declared c = type_declarations_decided

pub returns-clause-heads : goal.returns-clause-heads
returns-clause-heads c = heads_decided
