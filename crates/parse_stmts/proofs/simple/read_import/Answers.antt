use Rattle.std.proofs.Common.{arith}
use Rattle.std.proofs.lemmas.Result.{err_from_is_err_and}
use Rattle.parse_decls.proofs.ForCallers.{fails_then, fails_leads, leads_then, leads_on, found}
use Rattle.parse_stmts.proofs.simple.read_import.Goals as goal

pub returns-in_err-first : goal.returns-in_err-first
returns-in_err-first c =
    let p = err_from_is_err_and c.from_residual.result c.from_residual.ensures.1 in
    rw (p.1, p.2) (fails_then _ _ _ _ c.in_err-first.ensures)

pub returns-in_err-names : goal.returns-in_err-names
returns-in_err-names c =
    let p = err_from_is_err_and c.from_residual-in_err-names.result c.from_residual-in_err-names.ensures.1 in
    rw (p.1, p.2) (fails_leads _ _ _ (leads_then _ c.in_ok-first.ensures.runs) _ (fails_then _ _ _ _ c.in_err-names.ensures))

pub returns : goal.returns
returns c =
    let h = c.in_ok-names.ensures in
    rw c.place_at.ensures (found _ _ (leads_on (leads_then _ h.runs) (leads_then _ c.in_ok-first.ensures.runs))
    (omega (arith, h.goes, c.in_ok-first.ensures.goes)) h.within)
