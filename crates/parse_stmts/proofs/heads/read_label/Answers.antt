use Rattle.std.proofs.Common.{ap, ◌∙◌, arith}
use Rattle.std.proofs.lemmas.Result.{err_from_is_err_and}
use Rattle.nim_tree.specs.Terms.{term_of, place_of, range}
use Rattle.parse_exprs.specs.Input.{origin_of}
use Rattle.parse_decls.proofs.ForCallers.{fails_then, fails_leads, leads_then, leads_on, leads_if, found}
use Rattle.parse_stmts.specs.Run.{run_here}
use Rattle.parse_stmts.proofs.Steps.{fails_at, settles_at}
use Rattle.parse_stmts.proofs.heads.read_label.Goals as goal

pub returns-in_err-high : goal.returns-in_err-high
returns-in_err-high c =
    let p = err_from_is_err_and c.from_residual-in_err-high.result c.from_residual-in_err-high.ensures.1 in
    let x = origin_of c.args.input.now in let h = c.in-Some.ensures in
    rw (p.1, p.2)
    (fails_leads _ _ _ (leads_on (leads_if _ _ h.is) (leads_then _ c.in_ok-low.ensures.runs))
    _ (fails_then _ _ _ _ (fails_at (λ ts k. run_here k x c.args.spaces ts) x h.behind _ c.in_err-high.ensures)))

pub returns : goal.returns
returns c =
    let x = origin_of c.args.input.now in let h = c.in-Some.ensures in let last = c.in_ok-high.ensures in
    rw (c.in_ok-make_range.ensures.ok
    ∙ ap (λ a. range (place_of (term_of a)) (term_of a) (term_of c.in_ok-high.high.value)) c.in_ok-first.ensures.ok)
    (found _ _ (leads_on (leads_then _ (settles_at (λ ts k. run_here k x c.args.spaces ts) h.behind last.runs))
    (leads_on (leads_if _ _ h.is) (leads_then _ c.in_ok-low.ensures.runs)))
    (omega (arith, h.goes, last.goes, c.in_ok-low.ensures.goes)) last.within)
