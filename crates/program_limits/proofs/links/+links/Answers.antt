use Rattle.std.proofs.Common.{◌∙◌, sym, ap}
use Rattle.nim_program.specs.View.{literal_of}
use Rattle.nim_program.proofs.ForCallers.{parts_of}
use Rattle.program_limits.specs.Data.{has_links}
use Rattle.program_limits.proofs.links.+links.Goals as goal

pub has_links-returns-in-Parts : goal.has_links-returns-in-Parts
has_links-returns-in-Parts t c = c.any_has_links.ensures ∙ sym (ap has_links (ap literal_of c.in-Parts.is ∙ parts_of c.in-Parts.all))
