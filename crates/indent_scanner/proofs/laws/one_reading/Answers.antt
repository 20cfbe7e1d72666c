use Rattle.indent_scanner.proofs.OneReading as L
use Rattle.indent_scanner.proofs.Outcomes.{tokens_or_refused}
use Rattle.indent_scanner.proofs.laws.one_reading.Goals as goal

pub returns-clause-some : goal.returns-clause-some
returns-clause-some c = tokens_or_refused

pub returns-clause-once : goal.returns-clause-once
returns-clause-once c = L.once

pub returns-clause-apart : goal.returns-clause-apart
returns-clause-apart c = L.apart

pub returns-clause-refused_once : goal.returns-clause-refused_once
returns-clause-refused_once c = L.refused_once
