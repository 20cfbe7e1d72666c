use Rattle.std.proofs.Common.{sym, ◌∙◌, arith}
use Rattle.std.proofs.lemmas.Result.{err_from_is_err_and}
use Rattle.parse_decls.proofs.Coming.{fails_then, fails_leads, leads_on, leads_then, leads_if, found}
use Rattle.parse_decls.proofs.written.read_annotation.Goals as goal

pub returns-in_err-of : goal.returns-in_err-of
returns-in_err-of c =
    let p = err_from_is_err_and c.from_residual.result c.from_residual.ensures.1 in
    rw (p.1, p.2) (fails_leads _ _ _ (leads_if _ _ (sym c.colon_at.ensures ∙ c.if-not-colon_at.false)) _ (fails_then _ _ _ _ c.in_err-of.ensures))

pub returns : goal.returns
returns c =
    let g = c.in_ok-of.ensures.goes in
    found _ _ (leads_on (leads_then _ c.in_ok-of.ensures.runs) (leads_if _ _ (sym c.colon_at.ensures ∙ c.if-not-colon_at.false)))
    (omega (arith, g)) c.in_ok-of.ensures.within
