use Rattle.std.proofs.Common.{sym, ◌∙◌}
use Rattle.std.proofs.lemmas.Result.{err_from_is_err_and}
use Rattle.parse_decls.proofs.Coming.{fails_then, fails_leads, leads_on, leads_then, leads_unless, found}
use Rattle.parse_decls.proofs.body.read_distinct.Goals as goal

pub returns-in_err-base : goal.returns-in_err-base
returns-in_err-base c =
    let p = err_from_is_err_and c.from_residual.result c.from_residual.ensures.1 in
    rw (p.1, p.2) (fails_leads _ _ _ (leads_unless _ _ (sym c.stays.ensures ∙ c.if-not-stays.false)) _ (fails_then _ _ _ _ c.in_err-base.ensures))

pub returns : goal.returns
returns c = found _ _ (leads_on (leads_then _ c.in_ok-base.ensures.runs) (leads_unless _ _ (sym c.stays.ensures ∙ c.if-not-stays.false)))
    c.in_ok-base.ensures.goes c.in_ok-base.ensures.within
