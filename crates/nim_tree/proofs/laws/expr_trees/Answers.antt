use Rattle.nim_tree.proofs.Rows.{tupled, listed, sequenced, constructed, called, indexed, chosen, selected, selected_else}
use Rattle.nim_tree.proofs.laws.expr_trees.Goals as goal

pub returns-clause-tupled : goal.returns-clause-tupled
returns-clause-tupled c = tupled

pub returns-clause-listed : goal.returns-clause-listed
returns-clause-listed c = listed

pub returns-clause-sequenced : goal.returns-clause-sequenced
returns-clause-sequenced c = sequenced

pub returns-clause-constructed : goal.returns-clause-constructed
returns-clause-constructed c = constructed

pub returns-clause-called : goal.returns-clause-called
returns-clause-called c = called

pub returns-clause-indexed : goal.returns-clause-indexed
returns-clause-indexed c = indexed

pub returns-clause-chosen : goal.returns-clause-chosen
returns-clause-chosen c = chosen

pub returns-clause-selected : goal.returns-clause-selected
returns-clause-selected c = selected

pub returns-clause-selected_else : goal.returns-clause-selected_else
returns-clause-selected_else c = selected_else
