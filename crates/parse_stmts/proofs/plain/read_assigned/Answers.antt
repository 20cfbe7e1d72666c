use Rattle.std.proofs.Common.{arith}
use Rattle.parse_decls.proofs.ForCallers.{behind_at, fails_then, leads_then, found}
use Rattle.parse_stmts.proofs.plain.read_assigned.Goals as goal

pub returns-in-Err : goal.returns-in-Err
returns-in-Err c =
    let b = behind_at c.args.target.next c.args.input.now.tokens.now in
    rw b (fails_then _ _ _ _ c.in-Err.ensures)

pub returns : goal.returns
returns c =
    let b = behind_at c.args.target.next c.args.input.now.tokens.now in
    let h = c.in-Ok.ensures in
    rw (c.place.ensures, b) (found _ _ (leads_then _ h.runs) (omega (arith, h.goes)) h.within)
