use Rattle.command_words.proofs.Commands.{one_at_most, one_or_none}
use Rattle.command_words.proofs.laws.one_command.Goals as goal

pub returns-clause-some : goal.returns-clause-some
returns-clause-some c = one_or_none

pub returns-clause-one : goal.returns-clause-one
returns-clause-one c = one_at_most
