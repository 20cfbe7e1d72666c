use Rattle.std.proofs.Common.{arith}
use Rattle.std.proofs.lemmas.Result.{err_from_is_err_and}
use Rattle.parse_decls.proofs.Coming.{fails_then, fails_leads, leads_on, leads_then, found}
use Rattle.parse_decls.proofs.body.read_object.Goals as goal

pub returns-in_err-parent : goal.returns-in_err-parent
returns-in_err-parent c =
    let p = err_from_is_err_and c.from_residual.result c.from_residual.ensures.1 in
    rw (p.1, p.2) (fails_then _ _ _ _ c.in_err-parent.ensures)

pub returns-in_err-fields : goal.returns-in_err-fields
returns-in_err-fields c =
    let p = err_from_is_err_and c.from_residual-in_err-fields.result c.from_residual-in_err-fields.ensures.1 in
    rw (p.1, p.2) (fails_leads _ _ _ (leads_then _ c.in_ok-parent.ensures.runs) _ (fails_then _ _ _ _ c.in_err-fields.ensures))

pub returns : goal.returns
returns c =
    let g = c.in_ok-parent.ensures.goes in
    let h = c.in_ok-fields.ensures.goes in
    found _ _ (leads_on (leads_then _ c.in_ok-fields.ensures.runs) (leads_then _ c.in_ok-parent.ensures.runs)) (omega (arith, g, h))
    c.in_ok-fields.ensures.within
