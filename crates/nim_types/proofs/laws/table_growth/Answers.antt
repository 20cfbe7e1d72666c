use Rattle.nim_types.proofs.Numbering.{grows_same, grows_trans, grown_at, added}
use Rattle.nim_types.proofs.Keeping.{form_grown}
use Rattle.nim_types.proofs.laws.table_growth.Goals as goal

pub returns-clause-same : goal.returns-clause-same
returns-clause-same c = grows_same

pub returns-clause-further : goal.returns-clause-further
returns-clause-further c = grows_trans

pub returns-clause-kept : goal.returns-clause-kept
returns-clause-kept c = grown_at

pub returns-clause-added : goal.returns-clause-added
returns-clause-added c = added

pub returns-clause-forms : goal.returns-clause-forms
returns-clause-forms c = λ old new w ty f g h. form_grown old new g h
