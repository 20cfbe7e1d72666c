use Rattle.std.proofs.Common.{arith}
use Rattle.parse_decls.proofs.ForCallers.{fails_then, fails_leads, leads_then, leads_on, found}
use Rattle.parse_stmts.proofs.plain.read_command.Goals as goal

pub returns-in-Err : goal.returns-in-Err
returns-in-Err c = fails_then _ _ _ _ c.in-Err.ensures

pub returns-in-Err-read_operands : goal.returns-in-Err-read_operands
returns-in-Err-read_operands c = fails_leads _ _ _ (leads_then _ c.in-Ok.ensures.runs) _ (fails_then _ _ _ _ c.in-Err-read_operands.ensures)

pub returns : goal.returns
returns c =
    let h = c.in-Ok-read_operands.ensures in
    rw c.place.ensures (found _ _ (leads_on (leads_then _ h.runs) (leads_then _ c.in-Ok.ensures.runs))
    (omega (arith, h.goes, c.in-Ok.ensures.goes)) h.within)
