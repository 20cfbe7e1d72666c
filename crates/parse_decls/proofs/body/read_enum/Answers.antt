use Rattle.std.proofs.lemmas.Result.{err_from_is_err_and}
use Rattle.parse_decls.proofs.Coming.{fails_then, leads_then, found}
use Rattle.parse_decls.proofs.body.read_enum.Goals as goal

pub returns-in_err-members : goal.returns-in_err-members
returns-in_err-members c =
    let p = err_from_is_err_and c.from_residual.result c.from_residual.ensures.1 in
    rw (p.1, p.2) (fails_then _ _ _ _ c.in_err-members.ensures)

pub returns : goal.returns
returns c = found _ _ (leads_then _ c.in_ok-members.ensures.runs) c.in_ok-members.ensures.goes c.in_ok-members.ensures.within
