use Rattle.std.proofs.Common.{refl, arith}
use Rattle.std.proofs.lemmas.Result.{err_from_is_err_and}
use Rattle.parse_exprs.specs.Input.{origin_of}
use Rattle.parse_decls.specs.Run.{run_types}
use Rattle.parse_decls.proofs.ForCallers.{fails_then, leads_on, leads_then, leads_suc, found}
use Rattle.parse_stmts.proofs.Steps.{fails_at, settles_at}
use Rattle.parse_stmts.proofs.Joining.{fails_suc, suc_at}
use Rattle.parse_stmts.proofs.block.compound.read_types_section.Goals as goal

pub returns-in_err-all : goal.returns-in_err-all
returns-in_err-all c =
    let p = err_from_is_err_and c.from_residual.result c.from_residual.ensures.1 in
    let input = c.args.input.now in let x = origin_of input in
    rw (p.1, p.2)
    (λ left. fails_suc _ _ x
    (λ k. refl) _ (fails_then _ _ _ _ (fails_at (λ m k. run_types k x c.args.spaces m) x (suc_at input c.args.at) _ c.in_err-all.ensures.runs)))

pub returns : goal.returns
returns c =
    let input = c.args.input.now in let x = origin_of input in let h = c.in_ok-all.ensures.runs in
    λ left. rw c.place_at.ensures
    (found _ _ (leads_on (leads_then _ (settles_at (λ m k. run_types k x c.args.spaces m) (suc_at input c.args.at) h.runs)) (leads_suc _ _ (λ k. refl)))
    (omega (arith, h.goes)) h.within)
