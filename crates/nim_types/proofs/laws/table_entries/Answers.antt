use Rattle.nim_types.proofs.Numbering.{count, at_entry, interned, said_number, said_by_entry}
use Rattle.nim_types.proofs.laws.table_entries.Goals as goal

pub returns-clause-count : goal.returns-clause-count
returns-clause-count c = count

pub returns-clause-meant : goal.returns-clause-meant
returns-clause-meant c = at_entry

pub returns-clause-interned : goal.returns-clause-interned
returns-clause-interned c = interned

pub returns-clause-said : goal.returns-clause-said
returns-clause-said c = said_number

pub returns-clause-only : goal.returns-clause-only
returns-clause-only c = said_by_entry
