use Rattle.std.proofs.Common.{arith}
use Rattle.std.proofs.lemmas.Result.{err_from_is_err_and}
use Rattle.parse_decls.proofs.Coming.{fails_then, fails_leads, leads_on, leads_then, found}
use Rattle.parse_decls.proofs.head.read_head.Goals as goal

pub returns-in_err-name : goal.returns-in_err-name
returns-in_err-name c =
    let p = err_from_is_err_and c.from_residual.result c.from_residual.ensures.1 in
    rw (p.1, p.2) (fails_then _ _ _ _ c.in_err-name.ensures)

pub returns-in_err-generics : goal.returns-in_err-generics
returns-in_err-generics c =
    let p = err_from_is_err_and c.from_residual-in_err-generics.result c.from_residual-in_err-generics.ensures.1 in
    rw (p.1, p.2) (fails_leads _ _ _ (leads_then _ c.in_ok-name.ensures.runs) _ (fails_then _ _ _ _ c.in_err-generics.ensures))

pub returns-in_err-params : goal.returns-in_err-params
returns-in_err-params c =
    let p = err_from_is_err_and c.from_residual-in_err-params.result c.from_residual-in_err-params.ensures.1 in
    rw (p.1, p.2) (fails_leads _ _ _ (leads_on (leads_then _ c.in_ok-generics.ensures.runs) (leads_then _ c.in_ok-name.ensures.runs))
    _ (fails_then _ _ _ _ c.in_err-params.ensures))

pub returns-in_err-gives : goal.returns-in_err-gives
returns-in_err-gives c =
    let p = err_from_is_err_and c.from_residual-in_err-gives.result c.from_residual-in_err-gives.ensures.1 in
    rw (p.1, p.2)
    (fails_leads
    _ _ _ (leads_on (leads_then _ c.in_ok-params.ensures.runs)
    (leads_on (leads_then _ c.in_ok-generics.ensures.runs) (leads_then _ c.in_ok-name.ensures.runs))) _ (fails_then _ _ _ _ c.in_err-gives.ensures))

pub returns-in-Err : goal.returns-in-Err
returns-in-Err c =
    let l = leads_on (leads_then _ c.in_ok-gives.ensures.runs)
    (leads_on (leads_then _ c.in_ok-params.ensures.runs)
    (leads_on (leads_then _ c.in_ok-generics.ensures.runs) (leads_then _ c.in_ok-name.ensures.runs))) in
    fails_leads _ _ _ l _ (fails_then _ _ _ _ c.in-Err.ensures)

pub returns : goal.returns
returns c =
    let l = leads_on (leads_then _ c.in_ok-gives.ensures.runs)
    (leads_on (leads_then _ c.in_ok-params.ensures.runs)
    (leads_on (leads_then _ c.in_ok-generics.ensures.runs) (leads_then _ c.in_ok-name.ensures.runs))) in
    let g = c.in_ok-name.ensures.goes in
    let h = c.in_ok-generics.ensures.goes in
    let i = c.in_ok-params.ensures.goes in
    let j = c.in_ok-gives.ensures.goes in
    let m = c.in-Ok.ensures.goes in
    found _ _ (leads_on (leads_then _ c.in-Ok.ensures.runs) l) (omega (arith, g, h, i, j, m)) c.in-Ok.ensures.within
