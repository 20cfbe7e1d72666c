use Rattle.std.proofs.Common.{ap, ◌∙◌}
use Rattle.nim_program.specs.Program.{ElementsOf}
use Rattle.nim_program.specs.View.{literals_of}
use Rattle.nim_program.proofs.ForCallers.{elements_of}
use Rattle.plain_values.proofs.starts.no_elements.Goals as goal

pub returns : goal.returns
returns c = elements_of c.new.result ∙ ap (λ xs. ElementsOf (literals_of xs)) c.new.ensures.items
