use Rattle.nim_program.proofs.ForCallers.{parts_of}
use Rattle.expr_constants.proofs.defaults.parts_with.Goals as goal

pub returns : goal.returns
returns c = parts_of c.args.all
