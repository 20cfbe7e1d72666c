use Rattle.check_decls.proofs.Finishing.{text_goes, text_stops}
use Rattle.check_decls.proofs.program.checked.Goals as goal

pub returns-in-Ok-clause-program : goal.returns-in-Ok-clause-program
returns-in-Ok-clause-program c = λ ts.
    text_goes ts c.args.draft c.as_slice.result.now c.as_slice.ensures (c.in-Ok.ensures ts) c.program_of.result (c.program_of.ensures.program ts)

pub returns-in-Err-clause-program : goal.returns-in-Err-clause-program
returns-in-Err-clause-program c = λ ts. text_stops ts c.args.draft c.as_slice.result.now c.as_slice.ensures c.in-Err.stop (c.in-Err.ensures ts)
