use Rattle.std.proofs.Common.{◌∙◌, ap}
use Rattle.plain_values.specs.Entries.{limit_at}
use Rattle.plain_values.proofs.TextRows.{limit_is}
use Rattle.plain_values.proofs.texts.limit_of.Goals as goal

pub returns : goal.returns
returns c = c.limit_at.ensures ∙ ap limit_at c.entry.ensures.is ∙ limit_is c.args.types.now c.entry.ensures.table c.args.ty
