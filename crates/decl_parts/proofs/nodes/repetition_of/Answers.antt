use Rattle.std.proofs.Common.{ap}
use Rattle.nim_program.specs.Program.{Empty}
use Rattle.nim_program.proofs.ForCallers.{repeated}
use Rattle.decl_parts.specs.View.{steps_in}
use Rattle.decl_parts.proofs.nodes.repetition_of.Goals as goal

pub returns : goal.returns
returns c = λ ts. ap steps_in (repeated ts c.args.node Empty c.args.kind c.args.head c.args.body)
