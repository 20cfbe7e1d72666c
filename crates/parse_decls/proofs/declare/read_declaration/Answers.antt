use Rattle.std.proofs.Common.{sym, ◌∙◌, arith}
use Rattle.std.proofs.lemmas.Result.{err_from_is_err_and}
use Rattle.parse_decls.proofs.Coming.{fails_then, fails_leads, fails_stuck, leads_on, leads_then, leads_unless, leads_past, found}
use Rattle.parse_decls.proofs.BodySteps.{declared_run}
use Rattle.parse_decls.proofs.declare.read_declaration.Goals as goal

pub returns-in_err-name : goal.returns-in_err-name
returns-in_err-name c =
    let p = err_from_is_err_and c.from_residual.result c.from_residual.ensures.1 in
    rw (p.1, p.2) (fails_then _ _ _ _ c.in_err-name.ensures)

pub returns-in_err-parameters : goal.returns-in_err-parameters
returns-in_err-parameters c =
    let p = err_from_is_err_and c.from_residual-in_err-parameters.result c.from_residual-in_err-parameters.ensures.1 in
    rw (p.1, p.2) (fails_leads _ _ _ (leads_then _ c.in_ok-name.ensures.runs) _ (fails_then _ _ _ _ c.in_err-parameters.ensures))

pub returns-then-not-equals_at : goal.returns-then-not-equals_at
returns-then-not-equals_at c =
    fails_leads _ _ _ (leads_on (leads_then _ c.in_ok-parameters.ensures.runs) (leads_then _ c.in_ok-name.ensures.runs))
    _ (fails_stuck _ _ _ (sym c.equals_at.ensures ∙ c.if-not-equals_at.true) _ c.stuck.ensures)

pub returns-then-not-stays : goal.returns-then-not-stays
returns-then-not-stays c =
    let l = leads_past c.args.input.now c.in_ok-parameters.parameters.next
    (declared_run c.args.input.now c.args.spaces c.in_ok-name.name.value c.in_ok-parameters.parameters.value.items)
    (sym c.equals_at.ensures ∙ c.if-not-equals_at.false) in
    fails_leads _ _ _ (leads_on l (leads_on (leads_then _ c.in_ok-parameters.ensures.runs) (leads_then _ c.in_ok-name.ensures.runs)))
    _ (fails_stuck _ _ _ (sym c.stays.ensures ∙ c.if-not-stays.true) _ c.stuck-then-not-stays.ensures)

pub returns-in_err-body : goal.returns-in_err-body
returns-in_err-body c =
    let p = err_from_is_err_and c.from_residual-in_err-body.result c.from_residual-in_err-body.ensures.1 in
    let l = leads_past c.args.input.now c.in_ok-parameters.parameters.next
    (declared_run c.args.input.now c.args.spaces c.in_ok-name.name.value c.in_ok-parameters.parameters.value.items)
    (sym c.equals_at.ensures ∙ c.if-not-equals_at.false) in
    let m = leads_on (leads_unless _ _ (sym c.stays.ensures ∙ c.if-not-stays.false))
    (leads_on l (leads_on (leads_then _ c.in_ok-parameters.ensures.runs) (leads_then _ c.in_ok-name.ensures.runs))) in
    rw (p.1, p.2) (fails_leads _ _ _ m _ (fails_then _ _ _ _ c.in_err-body.ensures))

pub returns : goal.returns
returns c =
    let l = leads_past c.args.input.now c.in_ok-parameters.parameters.next
    (declared_run c.args.input.now c.args.spaces c.in_ok-name.name.value c.in_ok-parameters.parameters.value.items)
    (sym c.equals_at.ensures ∙ c.if-not-equals_at.false) in
    let m = leads_on (leads_unless _ _ (sym c.stays.ensures ∙ c.if-not-stays.false))
    (leads_on l (leads_on (leads_then _ c.in_ok-parameters.ensures.runs) (leads_then _ c.in_ok-name.ensures.runs))) in
    let g = c.in_ok-name.ensures.goes in
    let h = c.in_ok-parameters.ensures.goes in
    let i = c.in_ok-body.ensures.goes in
    found _ _ (leads_on (leads_then _ c.in_ok-body.ensures.runs) m) (omega (arith, g, h, i)) c.in_ok-body.ensures.within
