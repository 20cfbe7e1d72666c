use Rattle.std.proofs.Common.{sym, ◌∙◌, arith}
use Rattle.std.proofs.lemmas.Result.{err_from_is_err_and}
use Rattle.parse_exprs.specs.Input.{origin_of}
use Rattle.parse_decls.specs.Run.{run_name}
use Rattle.parse_decls.proofs.Coming.{fails_then, fails_leads, fails_at, settles_at, leads_on, leads_then, leads_if, behind_at, found}
use Rattle.parse_decls.proofs.body.read_parent.Goals as goal

pub returns-in_err-name : goal.returns-in_err-name
returns-in_err-name c =
    let p = err_from_is_err_and c.from_residual.result c.from_residual.ensures.1 in
    let b = behind_at c.args.at c.args.input.now.tokens.now in
    rw (p.1, p.2)
    (fails_leads _ _ _ (leads_if _ _ (sym c.of_at.ensures ∙ c.if-not-of_at.false))
    _ (fails_then _ _ _ _ (fails_at (λ ts k. run_name (origin_of c.args.input.now) c.args.layout ts) _ _ b c.in_err-name.ensures)))

pub returns : goal.returns
returns c =
    let b = behind_at c.args.at c.args.input.now.tokens.now in
    let h = settles_at (λ ts k. run_name (origin_of c.args.input.now) c.args.layout ts) b c.in_ok-name.ensures.runs in
    let g = c.in_ok-name.ensures.goes in
    found _ _ (leads_on (leads_then _ h) (leads_if _ _ (sym c.of_at.ensures ∙ c.if-not-of_at.false))) (omega (arith, g)) c.in_ok-name.ensures.within
