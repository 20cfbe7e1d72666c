use Rattle.std.proofs.Common.{refl}
use Rattle.parse_stmts.specs.Look.{word_on}
use Rattle.parse_stmts.specs.Marks.{is_word}
use Rattle.parse_stmts.proofs.Steps.{past_is}
use Rattle.parse_stmts.proofs.marks.past_word.Goals as goal

pub returns : goal.returns
returns c = past_is c.args.input.now (word_on c.args.spaces (is_word c.args.word)) c.args.at _ refl c.word_on.ensures _ c.past.ensures
