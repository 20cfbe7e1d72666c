use Rattle.indent_scanner.proofs.Standing.{tokens_stand, tokens_spelled, refused_stands}
use Rattle.indent_scanner.proofs.Neighbours.{tokens_spaced}
use Rattle.indent_scanner.proofs.Indents.{tokens_indented}
use Rattle.indent_scanner.proofs.laws.each_token.Goals as goal

pub returns-clause-tokens : goal.returns-clause-tokens
returns-clause-tokens c = tokens_stand

pub returns-clause-spelled : goal.returns-clause-spelled
returns-clause-spelled c = tokens_spelled

pub returns-clause-spaced : goal.returns-clause-spaced
returns-clause-spaced c = tokens_spaced

pub returns-clause-indented : goal.returns-clause-indented
returns-clause-indented c = tokens_indented

pub returns-clause-refused : goal.returns-clause-refused
returns-clause-refused c = refused_stands
