use Rattle.std.proofs.Common.{arith}
use Rattle.std.proofs.lemmas.Result.{err_from_is_err_and}
use Rattle.parse_decls.proofs.Coming.{fails_then, fails_leads, leads_on, leads_then, found}
use Rattle.parse_decls.proofs.define.read_defined.Goals as goal

pub returns-in_err-names : goal.returns-in_err-names
returns-in_err-names c =
    let p = err_from_is_err_and c.from_residual.result c.from_residual.ensures.1 in
    rw (p.1, p.2) (fails_then _ _ _ _ c.in_err-names.ensures)

pub returns-in_err-pragmas : goal.returns-in_err-pragmas
returns-in_err-pragmas c =
    let p = err_from_is_err_and c.from_residual-in_err-pragmas.result c.from_residual-in_err-pragmas.ensures.1 in
    rw (p.1, p.2) (fails_leads _ _ _ (leads_then _ c.in_ok-names.ensures.runs) _ (fails_then _ _ _ _ c.in_err-pragmas.ensures))

pub returns-in_err-annotation : goal.returns-in_err-annotation
returns-in_err-annotation c =
    let p = err_from_is_err_and c.from_residual-in_err-annotation.result c.from_residual-in_err-annotation.ensures.1 in
    rw (p.1, p.2) (fails_leads _ _ _ (leads_on (leads_then _ c.in_ok-pragmas.ensures.runs) (leads_then _ c.in_ok-names.ensures.runs))
    _ (fails_then _ _ _ _ c.in_err-annotation.ensures))

pub returns-in-Err : goal.returns-in-Err
returns-in-Err c =
    fails_leads _ _ _ (leads_on (leads_then _ c.in_ok-annotation.ensures.runs)
    (leads_on (leads_then _ c.in_ok-pragmas.ensures.runs) (leads_then _ c.in_ok-names.ensures.runs))) _ (fails_then _ _ _ _ c.in-Err.ensures)

pub returns : goal.returns
returns c =
    let g = c.in_ok-names.ensures.goes in
    let h = c.in_ok-pragmas.ensures.goes in
    let i = c.in_ok-annotation.ensures.goes in
    let j = c.in-Ok.ensures.goes in
    found _ _ (leads_on (leads_then _ c.in-Ok.ensures.runs)
    (leads_on (leads_then _ c.in_ok-annotation.ensures.runs)
    (leads_on (leads_then _ c.in_ok-pragmas.ensures.runs) (leads_then _ c.in_ok-names.ensures.runs)))) (omega (arith, g, h, i, j))
    c.in-Ok.ensures.within
