use Rattle.check_decls.proofs.Finishing.{program_is}
use Rattle.check_decls.proofs.program.program_of.Goals as goal

pub returns-clause-program : goal.returns-clause-program
returns-clause-program c = λ ts. program_is ts c.args.draft
