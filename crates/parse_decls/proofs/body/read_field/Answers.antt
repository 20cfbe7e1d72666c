use Rattle.std.proofs.Common.{arith}
use Rattle.std.proofs.lemmas.Result.{err_from_is_err_and}
use Rattle.parse_decls.proofs.Coming.{fails_then, fails_leads, leads_on, leads_then, found}
use Rattle.parse_decls.proofs.body.read_field.Goals as goal

pub returns-in_err-names : goal.returns-in_err-names
returns-in_err-names c =
    let p = err_from_is_err_and c.from_residual.result c.from_residual.ensures.1 in
    rw (p.1, p.2) (fails_then _ _ _ _ c.in_err-names.ensures)

pub returns-in_err-of : goal.returns-in_err-of
returns-in_err-of c =
    let p = err_from_is_err_and c.from_residual-in_err-of.result c.from_residual-in_err-of.ensures.1 in
    rw (p.1, p.2) (fails_leads _ _ _ (leads_then _ c.in_ok-names.ensures.runs) _ (fails_then _ _ _ _ c.in_err-of.ensures))

pub returns : goal.returns
returns c =
    let g = c.in_ok-names.ensures.goes in
    let h = c.in_ok-of.ensures.goes in
    found _ _ (leads_on (leads_then _ c.in_ok-of.ensures.runs) (leads_then _ c.in_ok-names.ensures.runs)) (omega (arith, g, h)) c.in_ok-of.ensures.within
