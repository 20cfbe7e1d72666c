use Rattle.expr_rules.proofs.Agree.{calls, no_calls, overlapping, writing, twice, meeting, enough, unknown}
use Rattle.expr_rules.proofs.laws.calls_computed.Goals as goal

pub returns-clause-calls : goal.returns-clause-calls
returns-clause-calls c = calls

pub returns-clause-none : goal.returns-clause-none
returns-clause-none c = no_calls

pub returns-clause-overlap : goal.returns-clause-overlap
returns-clause-overlap c = overlapping

pub returns-clause-writing : goal.returns-clause-writing
returns-clause-writing c = writing

pub returns-clause-twice : goal.returns-clause-twice
returns-clause-twice c = twice

pub returns-clause-enough : goal.returns-clause-enough
returns-clause-enough c = enough

pub returns-clause-unknown : goal.returns-clause-unknown
returns-clause-unknown c = unknown

pub returns-clause-meeting : goal.returns-clause-meeting
returns-clause-meeting c = meeting
