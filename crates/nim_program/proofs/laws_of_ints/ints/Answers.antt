use Rattle.std.proofs.lemmas.Int.{quot-rem}
use Rattle.nim_program.proofs.Ranges.{applied_fits}
use Rattle.nim_program.proofs.laws_of_ints.ints.Goals as goal

pub returns-clause-closed : goal.returns-clause-closed
returns-clause-closed c = applied_fits

pub returns-clause-remainder : goal.returns-clause-remainder
returns-clause-remainder c = quot-rem
