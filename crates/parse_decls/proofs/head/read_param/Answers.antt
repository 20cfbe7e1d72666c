use Rattle.std.proofs.Common.{◌+◌, sym, ap, ◌∙◌, arith}
use Rattle.std.proofs.lemmas.Result.{err_from_is_err_and}
use Rattle.nim_tree.specs.Types.{written_of}
use Rattle.parse_decls.proofs.Coming.{fails_then, fails_leads, fails_stuck, leads_on, leads_then, leads_past, found, found_is}
use Rattle.parse_decls.proofs.HeadSteps.{parameter, mode_run, mode_leads}
use Rattle.parse_decls.proofs.head.read_param.Goals as goal

pub returns-in_err-names : goal.returns-in_err-names
returns-in_err-names c =
    let p = err_from_is_err_and c.from_residual.result c.from_residual.ensures.1 in
    rw (p.1, p.2) (fails_then _ _ _ _ c.in_err-names.ensures)

pub returns-then-not-colon_at : goal.returns-then-not-colon_at
returns-then-not-colon_at c = fails_leads _ _ _ (leads_then _ c.in_ok-names.ensures.runs)
    _ (fails_stuck _ _ _ (sym c.colon_at.ensures ∙ c.if-not-colon_at.true) _ c.stuck.ensures)

pub returns-in_err-of : goal.returns-in_err-of
returns-in_err-of c =
    let p = err_from_is_err_and c.from_residual-in_err-of.result c.from_residual-in_err-of.ensures.1 in
    let l = leads_past c.args.input.now c.in_ok-names.names.next (mode_run c.args.input.now c.in_ok-names.names.value.items)
    (sym c.colon_at.ensures ∙ c.if-not-colon_at.false) in
    let m = mode_leads c.args.input.now c.in_ok-names.names.value.items (c.in_ok-names.names.next + 1) _ c.past_mode-begins.ensures.past in
    rw (p.1, p.2) (fails_leads _ _ _ (leads_on m (leads_on l (leads_then _ c.in_ok-names.ensures.runs))) _ (fails_then _ _ _ _ c.in_err-of.ensures))

pub returns : goal.returns
returns c =
    let l = leads_past c.args.input.now c.in_ok-names.names.next (mode_run c.args.input.now c.in_ok-names.names.value.items)
    (sym c.colon_at.ensures ∙ c.if-not-colon_at.false) in
    let m = mode_leads c.args.input.now c.in_ok-names.names.value.items (c.in_ok-names.names.next + 1) _ c.past_mode-begins.ensures.past in
    let g = c.in_ok-names.ensures.goes in
    let h = c.past_mode-begins.ensures.goes in
    let i = c.in_ok-of.ensures.goes in
    found_is (ap (λ mode. parameter c.in_ok-names.names.value.items mode (written_of c.in_ok-of.of.value)) c.mode_at-mode.ensures)
    (found _ _ (leads_on (leads_then _ c.in_ok-of.ensures.runs) (leads_on m (leads_on l (leads_then _ c.in_ok-names.ensures.runs)))) (omega (arith, g, h, i))
    c.in_ok-of.ensures.within)
