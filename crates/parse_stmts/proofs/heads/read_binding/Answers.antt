use Rattle.std.proofs.lemmas.Result.{err_from_is_err_and}
use Rattle.parse_exprs.specs.declared.layout.Layout.TheVariants.{Lines}
use Rattle.parse_exprs.specs.Input.{origin_of}
use Rattle.parse_decls.specs.Run.{run_name}
use Rattle.parse_decls.proofs.ForCallers.{fails_then, fails_leads, leads_if}
use Rattle.parse_stmts.proofs.Steps.{fails_at}
use Rattle.parse_stmts.proofs.heads.read_binding.Goals as goal

pub returns-in_err-name : goal.returns-in_err-name
returns-in_err-name c =
    let p = err_from_is_err_and c.from_residual.result c.from_residual.ensures.1 in
    let x = origin_of c.args.input.now in
    rw (p.1, p.2)
    (fails_leads _ _ _ (leads_if _ _ c.in-Some.ensures.is)
    _ (fails_then _ _ _ _ (fails_at (λ ts k. run_name x (Lines c.args.spaces) ts) x c.in-Some.ensures.behind _ c.in_err-name.ensures)))
