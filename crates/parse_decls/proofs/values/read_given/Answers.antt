use Rattle.std.proofs.Common.{sym, ◌∙◌}
use Rattle.std.proofs.lemmas.Result.{err_from_is_err_and}
use Rattle.parse_decls.proofs.Steps.{given_fails, given_stuck, given_found}
use Rattle.parse_decls.proofs.values.read_given.Goals as goal

pub returns-then-not-stays : goal.returns-then-not-stays
returns-then-not-stays c = given_stuck c.args.input.now c.args.layout c.args.at (sym c.equals_at.ensures ∙ c.if-not-equals_at.false)
    (sym c.stays.ensures ∙ c.if-not-stays.true) _ c.stuck.ensures

pub returns-in_err-value : goal.returns-in_err-value
returns-in_err-value c =
    let p = err_from_is_err_and c.from_residual.result c.from_residual.ensures.1 in
    rw (p.1, p.2) (given_fails c.args.input.now c.args.layout c.args.at (sym c.equals_at.ensures ∙ c.if-not-equals_at.false)
    (sym c.stays.ensures ∙ c.if-not-stays.false) _ c.in_err-value.ensures)

pub returns : goal.returns
returns c = given_found c.args.input.now c.args.layout c.args.at (sym c.equals_at.ensures ∙ c.if-not-equals_at.false)
    (sym c.stays.ensures ∙ c.if-not-stays.false) _ _ c.in_ok-value.ensures
