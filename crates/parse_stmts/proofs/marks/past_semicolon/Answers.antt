use Rattle.std.proofs.Common.{refl}
use Rattle.parse_exprs.specs.Look.{is_punct}
use Rattle.parse_stmts.specs.Look.{word_on}
use Rattle.parse_stmts.proofs.Steps.{past_is}
use Rattle.parse_stmts.proofs.marks.past_semicolon.Goals as goal

pub returns : goal.returns
returns c = past_is c.args.input.now (word_on c.args.spaces (is_punct 59)) c.args.at _ refl c.punct_on.ensures _ c.past.ensures
